-- The size of a run of values.
use Rattle.std.specs.Prelude.{ℕ, ◌+◌, ◌^◌, cond, List, [], ◌∷◌, length, Some, None, Ok, Err, Result, nat_lt}
use Rattle.fault.specs.declared.Fault.{Fault}
use Rattle.fault.specs.declared.Rule.TheVariants.{TooGreat}
use Rattle.fault.specs.Faults.{fault}
use Rattle.wire.specs.Words.{Value}

-- the number of bytes of a value; NULL has none
abbrev pub extent : Value → ℕ
extent None = 0
extent (Some bs) = length bs

abbrev pub extents : List Value → ℕ
extents [] = 0
extents (v ∷ vs) = extent v + extents vs

-- a sum that a signed word of 32 bits holds
abbrev pub total : List Value → Result ℕ Fault
total vs = cond (nat_lt (extents vs) (2 ^ 31)) (Ok (extents vs)) (Err (fault TooGreat 0))
