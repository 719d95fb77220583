use Rattle.std.proofs.Common.{◌+◌, ◌++◌, refl, ap, ◌∙◌, arith}
use Rattle.double.specs.Doubles.{double_word}
use Rattle.wire.specs.Bytes.{put}
use Rattle.wire.specs.Words.{be}
use Rattle.wire.proofs.Writing.{put_on}
use Rattle.geometry.proofs.write.put_point.Goals as goal

pub returns : goal.returns
returns c =
    let at = c.args.at in
    let part = c.args.part.now in
    let p = c.args.point in
    let x = be 8 (double_word c.x.result) in
    let y = be 8 (double_word c.y.result) in
    let same = ap (λ z. be 8 (double_word z) ++ y) c.x.ensures ∙ ap (λ z. be 8 (double_word p.x) ++ be 8 (double_word z)) c.y.ensures in
    record {
      answer = refl;
      after = put_on at (at + 8) x y part (omega arith) (omega arith) c.put_coordinate.ensures c.put_coordinate-2.ensures ∙ ap (λ ws. put at ws part) same;
    }
