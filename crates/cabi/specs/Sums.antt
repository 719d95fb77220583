-- What a read answers: a sum over the parts.
use Rattle.std.specs.Prelude.{ℕ, zero, suc, ◌+◌, ◌-◌, ◌%◌, ◌^◌, cond, length, Some, None, Ok, Err, Result}
use Rattle.std.specs.Float.Ieee.{lt}
use Rattle.fault.specs.declared.Fault.{Fault}
use Rattle.double.specs.declared.point.Point.{Point}
use Rattle.hstore.specs.Layout.{Entry}
use Rattle.wire.specs.Cursor.{State, Reader, Answer, step}
use Rattle.wire.specs.Words.{Value}

-- a number; the greatest one for any fault
abbrev pub number : Result ℕ Fault → ℕ
number (Ok n) = n
number (Err f) = 2 ^ 64 - 1

-- a part added to a sum: its bytes, or 1 where the first coordinate is below the second
abbrev pub add_value : Value → ℕ → ℕ
add_value (Some bs) sum = (sum + length bs) % 2 ^ 64
add_value None sum = sum

abbrev pub add_entry : Entry → ℕ → ℕ
add_entry e sum = add_value e.1 (add_value (Some e.0) sum)

abbrev pub add_point : Point → ℕ → ℕ
add_point p sum = cond (lt p.x p.y) ((sum + 1) % 2 ^ 64) sum

-- what one step of a cursor gave; `on` is what becomes of a part
abbrev pub stepped : {X : Type 0} → Answer X → ℕ → (X → Result ℕ Fault) → Result ℕ Fault
stepped (Ok None) sum on = Ok sum
stepped (Ok (Some x)) sum on = on x
stepped (Err f) sum on = Err f

-- at most n steps
abbrev pub sums : {X : Type 0} → Reader X → (X → ℕ → ℕ) → ℕ → State → ℕ → Result ℕ Fault
sums read add zero s sum = Ok sum
sums read add (suc n) s sum = stepped (step read s).0 sum (λ x. sums read add n (step read s).1 (add x sum))

-- all steps: one for each part to come, and one for the end
abbrev pub sum_to_end : {X : Type 0} → Reader X → (X → ℕ → ℕ) → State → ℕ → Result ℕ Fault
sum_to_end read add s sum = sums read add (suc s.left) s sum
