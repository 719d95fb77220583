use Rattle.std.proofs.Common.{◌≡◌, ◌^◌, ◌<◌, drop, Some}
use Rattle.shapeline.specs.Words.{hex_after}
use Rattle.shapeline.proofs.words.parse_word.Given as goal

abbrev pub invariant-loop-c : goal.invariant-loop-c
invariant-loop-c l = (hex_after (Some l.word) (drop l.c-index l.digits) ≡ hex_after (Some 0) l.digits) × (l.word < 16 ^ l.c-index)
