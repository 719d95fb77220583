use Rattle.std.proofs.Common.{◌≡◌, ℕ}
use Rattle.wire.specs.Cursors.{state}
use Rattle.cabi.specs.Sums.{sum_to_end}
use Rattle.cabi.proofs.reads.sum_parts.Given as goal

abbrev pub invariant-loop-add : goal.invariant-loop-add
invariant-loop-add g l =
    goal.F-IsAlwaysCallable g l.add
    × ((adds : g.P.Part.Form → ℕ → ℕ)
    → ((sum : ℕ) (item : _) (r : ℕ) → goal.F-post g l.add sum item r → r ≡ adds (g.P.Part.seen item) sum)
    → sum_to_end g.P.Part.reader adds (state l.initial.cursor) 0 ≡ sum_to_end g.P.Part.reader adds (state l.parts) l.sum)

abbrev pub decreases-loop-add : goal.decreases-loop-add
decreases-loop-add g l = (state l.parts).left
