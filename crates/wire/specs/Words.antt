-- Big-endian words, and what is read at a place.
use Rattle.std.specs.Prelude.{ℕ, zero, suc, ◌+◌, ◌/◌, ◌%◌, cond, List, [], ◌∷◌, ◌++◌, length, take, drop, ℤ, pos, negsuc, Some, None, Ok, Err, Option, Result, nat_le, nat_lt}
use Rattle.std.specs.Int.{Width, w8, w32, w64}
use Rattle.std.proofs.Common.{to_z, of_z}
use Rattle.std.specs.Borrow.{Bor}
use Rattle.std.specs.Option.{option_map}
use Rattle.std.specs.Int.Digits.{number_from_digits}
use Rattle.fault.specs.declared.Fault.{Fault}
use Rattle.fault.specs.declared.Rule.TheVariants.{Truncated, Overrun, Trailing, Negative}
use Rattle.fault.specs.Faults.{fault}

-- a fault is passed up, and a value on
abbrev pub then : {X Y : Type 0} → Result X Fault → (X → Result Y Fault) → Result Y Fault
then (Ok x) on = on x
then (Err f) on = Err f

-- a value that ends at a place: no byte may remain
abbrev pub ended : {X : Type 0} → List ℕ → ℕ → X → Result X Fault
ended bs at x = cond (nat_lt at (length bs)) (Err (fault Trailing at)) (Ok x)

-- n in w bytes, the most significant first
abbrev pub be : ℕ → ℕ → List ℕ
be zero n = []
be (suc w) n = be w (n / 256) ++ (n % 256) ∷ []

-- the number that the w bytes at a place make, the most significant first
abbrev pub word : ℕ → List ℕ → ℕ → ℕ
word w bs at = number_from_digits 256 (take w (drop at bs))

-- the w bytes at a place, or a fault there
abbrev pub octets_at : ℕ → List ℕ → ℕ → Result (List ℕ) Fault
octets_at w bs at = cond (nat_le (at + w) (length bs)) (Ok (take w (drop at bs))) (Err (fault Truncated at))

-- a field of w bytes: all of them, or a fault at the field's start
abbrev pub uint_at : ℕ → List ℕ → ℕ → Result ℕ Fault
uint_at w bs at = cond (nat_le (at + w) (length bs)) (Ok (word w bs at)) (Err (fault Truncated at))

-- its bits in two's complement
abbrev pub signed : Width → Result ℕ Fault → Result ℤ Fault
signed w (Ok n) = Ok (to_z w n)
signed w (Err f) = Err f

abbrev pub u8_at : List ℕ → ℕ → Result ℕ Fault
u8_at bs at = uint_at 1 bs at

abbrev pub u32_at : List ℕ → ℕ → Result ℕ Fault
u32_at bs at = uint_at 4 bs at

abbrev pub u64_at : List ℕ → ℕ → Result ℕ Fault
u64_at bs at = uint_at 8 bs at

abbrev pub i8_at : List ℕ → ℕ → Result ℤ Fault
i8_at bs at = signed w8 (u8_at bs at)

abbrev pub i32_at : List ℕ → ℕ → Result ℤ Fault
i32_at bs at = signed w32 (u32_at bs at)

abbrev pub i64_at : List ℕ → ℕ → Result ℤ Fault
i64_at bs at = signed w64 (u64_at bs at)

-- a count: a signed word that is not below 0
abbrev pub natural : ℕ → ℤ → Result ℕ Fault
natural at (pos n) = Ok n
natural at (negsuc n) = Err (fault Negative at)

abbrev pub count_at : List ℕ → ℕ → Result ℕ Fault
count_at bs at = then (i32_at bs at) (natural at)

-- a signed number of 32 bits as it is written
abbrev pub int : ℤ → List ℕ
int z = be 4 (of_z w32 z)

-- NULL, or a payload
abbrev pub Value : Type 0
Value = Option (List ℕ)

-- the n bytes behind the length word at a place
abbrev pub payload_at : List ℕ → ℕ → ℕ → Result Value Fault
payload_at bs at n = cond (nat_le (at + 4 + n) (length bs)) (Ok (Some (take n (drop (at + 4) bs)))) (Err (fault Overrun at))

-- the value of a given length: every negative length says NULL
abbrev pub value_of : List ℕ → ℕ → Result ℤ Fault → Result Value Fault
value_of bs at (Ok (pos n)) = payload_at bs at n
value_of bs at (Ok (negsuc n)) = Ok None
value_of bs at (Err f) = Err f

-- a length word and what it announces
abbrev pub value_at : List ℕ → ℕ → Result Value Fault
value_at bs at = value_of bs at (i32_at bs at)

-- the bytes behind a reference that was answered
abbrev pub seen : Result (Option (Bor (List ℕ))) Fault → Result Value Fault
seen (Ok o) = Ok (option_map (λ x. x.now) o)
seen (Err f) = Err f
