-- How values are printed in an answer.
use Rattle.std.specs.Prelude.{ℕ, ◌+◌, ◌/◌, ◌%◌, cond, List, [], ◌∷◌, ◌++◌, decimal, nat_lt}
use Rattle.std.specs.List.{flat_map}
use Rattle.fault.specs.declared.Fault.{Fault}
use Rattle.fault.specs.Faults.{number}

-- the hexadecimal digit of a number below 16: 0 to 9, a to f
abbrev pub digit : ℕ → ℕ
digit d = cond (nat_lt d 10) (48 + d) (87 + d)

-- two digits to a byte
abbrev pub hex_byte : ℕ → List ℕ
hex_byte b = digit (b / 16) ∷ digit (b % 16) ∷ []

abbrev pub hex : List ℕ → List ℕ
hex bs = flat_map hex_byte bs

-- a byte string: x and its digits
abbrev pub byte_string : List ℕ → List ℕ
byte_string bs = 120 ∷ hex bs

-- a fault: NUMBER@PLACE/LEVEL
abbrev pub fault_text : Fault → List ℕ
fault_text f = decimal (number f.rule) ++ (64 ∷ (decimal f.place ++ (47 ∷ decimal f.level)))
