use Rattle.std.proofs.Common.{ℕ, Ok, sym, ap, ◌∙◌}
use Rattle.wire.specs.Cursors.{state, told_next}
use Rattle.cabi.specs.Sums.{sum_to_end}
use Rattle.cabi.proofs.Adding.{Added, added_on}
use Rattle.cabi.proofs.reads.sum_parts.Goals as goal

on : (g : _) (c : goal.After-add-sum g) (adds : g.P.Part.Form → ℕ → ℕ) → Added g.P.Part.reader adds (state c.loop-add.parts) (state c.next.new.self) (g.P.Part.seen c.in-Some.part) c.loop-add.sum
on g c adds =
    let next = c.in_ok-part.ensures in
    added_on g.P.Part.reader adds _ _ (g.P.Part.seen c.in-Some.part) _ (told_next g.P.Part.seen (Ok c.in_ok-part.field-0)) next.answer (ap (λ o. told_next g.P.Part.seen (Ok o)) c.in-Some.is) next.after

pub loop-add-smaller : goal.loop-add-smaller
loop-add-smaller g c = (on g c (λ x n. n)).less

pub loop-add-preserved : goal.loop-add-preserved
loop-add-preserved g c = (
  c.loop-add.invariant.0,
  λ adds follows.
      c.loop-add.invariant.1 adds follows
      ∙ (on g c adds).same
      ∙ ap (sum_to_end g.P.Part.reader adds (state c.next.new.self)) (sym (follows c.loop-add.sum c.in-Some.part c.add-sum.result c.add-sum.ensures)),
)
