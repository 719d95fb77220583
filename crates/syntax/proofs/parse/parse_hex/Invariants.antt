use Rattle.std.proofs.Common.{◌≡◌, ◌++◌, length, vec_items}
use Rattle.std.specs.Option.{option_map}
use Rattle.syntax.specs.Parsed.{unhex}
use Rattle.syntax.proofs.parse.parse_hex.Given as goal

abbrev pub invariant-loop-rest : goal.invariant-loop-rest
invariant-loop-rest l = unhex l.digits ≡ option_map (λ bs. vec_items l.bytes ++ bs) (unhex l.rest)

abbrev pub decreases-loop-rest : goal.decreases-loop-rest
decreases-loop-rest l = length l.rest
