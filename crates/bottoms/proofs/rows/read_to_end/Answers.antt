use Rattle.std.proofs.Common.{Ok, ap, ◌∙◌}
use Rattle.wire.specs.Cursors.{state, told_next}
use Rattle.bottoms.proofs.Passing.{Passed, passed_on}
use Rattle.bottoms.proofs.rows.read_to_end.Goals as goal

on : (g : _) (c : goal.In-Some g) → Passed g.P.Part.reader (state c.loop.parts) (state c.next.new.self)
on g c =
    let next = c.in_ok-next.ensures in
    passed_on g.P.Part.reader _ _ (g.P.Part.seen c.in-Some.field-0) (told_next g.P.Part.seen (Ok c.in_ok-next.field-0)) next.answer (ap (λ o. told_next g.P.Part.seen (Ok o)) c.in-Some.is) next.after

pub loop-smaller : goal.loop-smaller
loop-smaller g c = (on g c).less

pub loop-preserved : goal.loop-preserved
loop-preserved g c = c.loop.invariant ∙ (on g c).same
