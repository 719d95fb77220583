-- What the validator of positive numbers means.
use Rattle.std.specs.Prelude.{◌≡◌, ℕ, zero, suc, ◌^◌, ◌<◌, ◌↔◌, List, ℤ, pos, negsuc, Ok, Err, Result}
use Rattle.std.proofs.Common.{arith, lit≤}
use Rattle.fault.specs.declared.Fault.{Fault}
use Rattle.fault.specs.declared.Rule.TheVariants.{Other}
use Rattle.fault.specs.Faults.{fault}
use Rattle.wire.specs.Words.{then, be}
use Rattle.scalar.specs.Words.{int4_recv}
use Rattle.validator.specs.Verdicts.{Outcome, Verdict, Within}
use Rattle.bottoms.specs.Verdicts.{accepted}
use Rattle.bottoms.specs.Places.{int4_within}

-- the number is not above 0: a rule of this crate's own, number 128, at 0
abbrev pub not_above : Fault
not_above = fault (Other (record { number = 128; least = lit≤ tt })) 0

-- accepted, where the number is above 0
abbrev pub above : ℤ → Outcome
above (pos zero) = Err not_above
above (pos (suc n)) = Ok tt
above (negsuc n) = Err not_above

-- an int4 above 0; bytes that are no int4 are refused as such
abbrev pub positive_verdict : Verdict
positive_verdict bs = then (int4_recv bs) above

-- accepted are exactly the four bytes of a number above 0
abbrev pub PositiveExactly : List ℕ → Type 0
PositiveExactly bs = (positive_verdict bs ≡ Ok tt) ↔ ((n : ℕ) × (0 < n) × (n < 2 ^ 31) × (bs ≡ be 4 n))

above_within : (bs : List ℕ) (z : ℤ) → Within bs (above z)
above_within bs (pos zero) = omega arith
above_within bs (pos (suc n)) = tt
above_within bs (negsuc n) = omega arith

then_within : (bs : List ℕ) (r : Result ℤ Fault) → Within bs (accepted r) → Within bs (then r above)
then_within bs (Ok z) h = above_within bs z
then_within bs (Err f) h = h

-- what a validator owes: the place of a fault is at most the length of the bytes
pub positive_within : (bs : List ℕ) → Within bs (positive_verdict bs)
positive_within bs = then_within bs (int4_recv bs) (int4_within bs)
