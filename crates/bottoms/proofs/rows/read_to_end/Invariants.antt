use Rattle.std.proofs.Common.{◌≡◌}
use Rattle.validator.specs.Verdicts.{to_end}
use Rattle.wire.specs.Cursors.{state}
use Rattle.bottoms.specs.Verdicts.{pass}
use Rattle.bottoms.proofs.rows.read_to_end.Given as goal

abbrev pub invariant-loop : goal.invariant-loop
invariant-loop g l = to_end g.P.Part.reader pass (state l.initial.parts) ≡ to_end g.P.Part.reader pass (state l.parts)

abbrev pub decreases-loop : goal.decreases-loop
decreases-loop g l = (state l.parts).left
