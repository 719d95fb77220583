use Rattle.std.proofs.Common.{◌≡◌}
use Rattle.wire.specs.Cursor.{read_nullable}
use Rattle.validator.specs.Verdicts.{handed, to_end}
use Rattle.wire.specs.Cursors.{state}
use Rattle.validator.proofs.array_of.read_to_end.Given as goal

abbrev pub invariant-loop-value : goal.invariant-loop-value
invariant-loop-value g l =
    (l.at ≡ (state l.values).place)
    × ((state l.values).bytes ≡ (state l.initial.values).bytes)
    × (to_end read_nullable (handed (g.V.Validator.verdict l.below)) (state l.initial.values) ≡ to_end read_nullable (handed (g.V.Validator.verdict l.below)) (state l.values))

abbrev pub decreases-loop-value : goal.decreases-loop-value
decreases-loop-value g l = (state l.values).left
