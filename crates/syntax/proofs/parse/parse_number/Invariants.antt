use Rattle.std.proofs.Common.{◌≡◌, drop, Some}
use Rattle.syntax.specs.Parsed.{number_after}
use Rattle.syntax.proofs.parse.parse_number.Given as goal

abbrev pub invariant-loop-c : goal.invariant-loop-c
invariant-loop-c l = number_after (Some l.n) (drop l.c-index l.text) ≡ number_after (Some 0) l.text
