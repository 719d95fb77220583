use Rattle.std.proofs.Common.{◌+◌, length, Ok, sym, ap, ◌∙◌, add-zero}
use Rattle.wire.specs.Bytes.{put}
use Rattle.wire.proofs.Writing.{put_none}
use Rattle.range.specs.Encoding.{bytes, bound_encoding}
use Rattle.range.proofs.Sides.{side_told, side_laid}
use Rattle.range.proofs.write.write_bound.Goals as goal

pub returns-in-Unbounded : goal.returns-in-Unbounded
returns-in-Unbounded g c =
    let is = g.S.Serializer.items c.args.serializer.now in
    let at = c.args.at in
    let part = c.args.part.now in
    let none = c.in-Unbounded.is in
    record {
      answer = ap Ok (sym (ap (λ s. at + length (bytes (bound_encoding is s))) none ∙ add-zero at));
      after = put_none at part ∙ ap (λ s. put at (bytes (bound_encoding is s)) part) (sym none);
    }

pub returns-in_ok-size-in-Inclusive : goal.returns-in_ok-size-in-Inclusive
returns-in_ok-size-in-Inclusive g c =
    let is = g.S.Serializer.items c.args.serializer.now in
    let at = c.args.at in
    let part = c.args.part.now in
    let named = c.in-Inclusive.is in
    record {
      answer = ap (λ n. Ok (at + n)) (side_told is c.args.bound _ at part named c.requires.sound c.requires.room _ c.in_ok-size-in-Inclusive.ensures.answer);
      after = side_laid is c.args.bound _ at part named c.requires.sound c.requires.room _ c.write_nullable.ensures.after;
    }
