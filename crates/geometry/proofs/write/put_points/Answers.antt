use Rattle.std.proofs.Common.{◌≡◌, ◌+◌, ◌<◌, ◌≤◌, length, get_or, take, Ok, Err, sym, ap, ◌∙◌, arith}
use Rattle.std.proofs.lemmas.List.{take_all}
use Rattle.wire.specs.Bytes.{put}
use Rattle.wire.proofs.Writing.{put_on, told_fits, laid_fits, told_past, laid_past}
use Rattle.geometry.specs.Layout.{point_layout, points_layout}
use Rattle.geometry.proofs.Points.{points_more, length_points, length_front}
use Rattle.geometry.proofs.write.put_points.Goals as goal

pub loop-point-preserved : goal.loop-point-preserved
loop-point-preserved c =
    let at = c.args.at in
    let part = c.args.part.now in
    let ps = c.args.points.now in
    let i = c.loop-point.point-index in
    let long = length_front ps i (omega arith) in
    let same : c.put_point-end.result ≡ c.loop-point.end + 16 = c.put_point-end.ensures.answer in (
      c.loop-point.invariant.0,
      omega arith,
      put_on at _ (points_layout (take i ps)) (point_layout (get_or ps i _)) part (omega arith) (omega arith) c.loop-point.invariant.2 c.put_point-end.ensures.after
          ∙ ap (λ ws. put at ws part) (sym (points_more ps i _ c.loop-point-test.true)),
    )

pub returns : goal.returns
returns c =
    let at = c.args.at in
    let ps = c.args.points.now in
    let part = c.args.part.now in
    let all = take_all c.loop-point.point-index ps c.loop-point-test.false in
    let long = length_points ps in
    let fits : at + length (points_layout ps) ≤ length part = omega arith in
    let end : c.loop-point.end ≡ at + length (points_layout ps) = omega arith in
    record {
      answer = ap Ok end ∙ sym (told_fits at (points_layout ps) part fits);
      after = c.loop-point.invariant.2 ∙ ap (λ qs. put at (points_layout qs) part) all ∙ sym (laid_fits at (points_layout ps) part fits);
    }

pub returns-then-part-at : goal.returns-then-part-at
returns-then-part-at c =
    let ws = points_layout c.args.points.now in
    let long = length_points c.args.points.now in
    let past : length c.args.part.now < c.args.at + length ws = omega arith in
    record { answer = ap Err c.new.ensures ∙ sym (told_past c.args.at ws c.args.part.now past); after = sym (laid_past c.args.at ws c.args.part.now past) }
