-- A count that fits a signed word.
use Rattle.std.proofs.Common.{◌≡◌, ℕ, ◌^◌, ◌<◌, Bool, true, false, cond, ltb, ℤ, pos, Ok, Err, refl, arith}
use Rattle.std.proofs.lemmas.Bool.{ltb-true}
use Rattle.fault.specs.declared.Rule.TheVariants.{TooGreat}
use Rattle.fault.specs.Faults.{fault}
use Rattle.wire.specs.Encoding.{fitted}

fits_by : (n place : ℕ) (z : ℤ) (b : Bool) → ltb n (2 ^ 31) ≡ b → Ok z ≡ cond b (Ok (pos n)) (Err (fault TooGreat place)) → (n < 2 ^ 31) × (z ≡ pos n)
fits_by n place z true t e = (ltb-true n (2 ^ 31) t, cc)
fits_by n place z false t e = let y : ◌≡◌ {A = ℕ} 0 1 = cc in absurd (omega arith)

pub count_fits : (n place : ℕ) (z : ℤ) → Ok z ≡ fitted n place → (n < 2 ^ 31) × (z ≡ pos n)
count_fits n place z e = fits_by n place z (ltb n (2 ^ 31)) refl e
