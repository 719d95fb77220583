use Rattle.std.proofs.Common.{◌≡◌, true, ◌++◌, vec_items}
use Rattle.answers.proofs.Steps.{to_print}
use Rattle.answers.proofs.parts.push_parts.Given as goal

abbrev pub invariant-loop-first : goal.invariant-loop-first
invariant-loop-first g l =
    let read = g.P.Parts.reads in
    vec_items l.out ++ to_print read l.first (g.P.Parts.state l.parts) ≡ vec_items l.initial.out ++ to_print read true (g.P.Parts.state l.initial.parts)

abbrev pub decreases-loop-first : goal.decreases-loop-first
decreases-loop-first g l = (g.P.Parts.state l.parts).left
