use Rattle.std.proofs.Common.{◌≡◌, ◌+◌, ◌<◌, length, pos, Ok, Err, sym, ap, ◌∙◌, arith, w32, SFits, to_z, of_z, rules}
use Rattle.std.proofs.lemmas.Int.{to_z-of_z}
use Rattle.wire.specs.Encoding.{told, laid, laid_at}
use Rattle.wire.specs.Words.{be, int}
use Rattle.wire.proofs.Counts.{count_fits}
use Rattle.wire.proofs.Writing.{roomy, no_room}
use Rattle.path.specs.Layout.{path_layout}
use Rattle.path.proofs.Writes.{encoding_is, points_told, laid_out}
use Rattle.geometry.specs.Layout.{points_layout}
use Rattle.geometry.proofs.Points.{length_points}
use Rattle.path.proofs.write.encode.Goals as goal

pub returns-then-part-points : goal.returns-then-part-points
returns-then-part-points c =
    let closed = c.args.closed in
    let ps = c.args.points.now in
    let part = c.args.part.now in
    let few = (count_fits (length ps) 0 _ c.in_ok-count.ensures).0 in
    let less : length part < length (path_layout closed ps) = omega (arith, length_points ps) in
    let e = no_room (length part) (path_layout closed ps) (encoding_is closed ps few) less in
    record { answer = ap Err c.new.ensures ∙ sym (ap told e); after = sym (ap (λ y. laid y part) e) }

pub returns : goal.returns
returns c =
    let closed = c.args.closed in
    let ps = c.args.points.now in
    let part = c.args.part.now in
    let count = count_fits (length ps) 0 _ c.in_ok-count.ensures in
    let fits : SFits w32 c.in_ok-count.count = search rules in
    let same : to_z w32 (of_z w32 c.in_ok-count.count) ≡ pos (length ps) = to_z-of_z w32 c.in_ok-count.count fits ∙ count.1 in
    let first = c.put.ensures.after ∙ ap (λ n. laid_at 0 (be 1 n) part) c.from.ensures in
    let second = c.put-2.ensures.after ∙ ap (λ z. laid_at 1 (int z) c.put.new.part) same in
    let points = length_points ps in
    let long : 5 + length (points_layout ps) ≡ length (path_layout closed ps) = omega arith in
    let bytes = laid_out closed ps part (omega arith) first second c.put_points.ensures.after in
    let e = roomy (length part) (path_layout closed ps) (encoding_is closed ps count.0) (omega arith) in
    record { answer = c.put_points.ensures.answer ∙ points_told closed ps part (omega arith) first second ∙ ap Ok long ∙ sym (ap told e); after = bytes ∙ sym (ap (λ y. laid y part) e) }
