-- A cursor that is read to the end, its parts added up.
use Rattle.std.proofs.Common.{◌≡◌, ℕ, ◌<◌, Some, Ok, sym, ap, ◌∙◌, arith}
use Rattle.wire.specs.Cursor.{State, Reader, Answer, step}
use Rattle.validator.proofs.Walking.{took}
use Rattle.cabi.specs.Sums.{stepped, sums, sum_to_end}

-- behind a part fewer are left, and the outcome is that of the greater sum
pub record Added {X : Type 0} (read : Reader X) (add : X → ℕ → ℕ) (s t : State) (x : X) (sum : ℕ) : Type 0 where
  pub less : t.left < s.left
  pub same : sum_to_end read add s sum ≡ sum_to_end read add t (add x sum)

-- `a` is what the step answered
pub added_on : {X : Type 0} (read : Reader X) (add : X → ℕ → ℕ) (s t : State) (x : X) (sum : ℕ) (a : Answer X) → a ≡ (step read s).0 → a ≡ Ok (Some x) → t ≡ (step read s).1 → Added read add s t x sum
added_on read add s t x sum a told is after =
    let gave = sym told ∙ is in
    let left = (took read s x gave).left in
    record {
      less = omega (arith, left, ap (λ r. r.left) after);
      same = ap (λ r. stepped r sum (λ y. sums read add s.left (step read s).1 (add y sum))) gave
          ∙ ap (λ n. sums read add n (step read s).1 (add x sum)) (sym left)
          ∙ ap (λ u. sum_to_end read add u (add x sum)) (sym after);
    }
