-- The number of another implementation, by the test that it passed.
use Rattle.std.proofs.Common.{◌≡◌, ℕ, ◌≤◌, Bool, true, false, leb, Some, refl, ap, arith}
use Rattle.std.proofs.lemmas.Bool.{leb-false}
use Rattle.std.proofs.Math.Bridge.{le_prop}
use Rattle.fault.specs.Faults.{foreign_of, with_number}

tested : (n : ℕ) (h : 128 ≤ n) (b : Bool) (e : leb 128 n ≡ b) → with_number n b e ≡ Some (record { number = n; least = h })
tested n h true e = ap (λ l. Some (record { number = n; least = l })) (le_prop _ h)
tested n h false e = let past = leb-false 128 n e in absurd (omega arith)

pub foreign_is : (n : ℕ) (h : 128 ≤ n) → foreign_of n ≡ Some (record { number = n; least = h })
foreign_is n h = tested n h (leb 128 n) refl
