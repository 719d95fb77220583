-- The layout of a bit string (varbit_send).
use Rattle.std.specs.Prelude.{ℕ, ◌+◌, ◌/◌, ◌^◌, cond, List, ◌++◌, Ok, Err, nat_lt}
use Rattle.fault.specs.declared.Rule.TheVariants.{TooGreat}
use Rattle.fault.specs.Faults.{fault}
use Rattle.wire.specs.Encoding.{Encoding}
use Rattle.wire.specs.Words.{be}

-- bit count, then the bytes as they are, padding bits included
abbrev pub varbit_layout : ℕ → List ℕ → List ℕ
varbit_layout bits bytes = be 4 bits ++ bytes

-- one byte for each eight bits begun
abbrev pub begun : ℕ → ℕ
begun bits = (bits + 7) / 8

-- bits and bytes are not compared; the count must fit
abbrev pub varbit_encoding : ℕ → List ℕ → Encoding
varbit_encoding bits bytes = cond (nat_lt bits (2 ^ 31)) (Ok (varbit_layout bits bytes)) (Err (fault TooGreat 0))
