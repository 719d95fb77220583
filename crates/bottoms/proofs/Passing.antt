-- A cursor that is read to the end, its parts passed over.
use Rattle.std.proofs.Common.{◌≡◌, ◌<◌, Some, Ok, sym, ap, ◌∙◌, arith}
use Rattle.wire.specs.Cursor.{State, Reader, Answer, step}
use Rattle.validator.specs.Verdicts.{to_end}
use Rattle.validator.proofs.Walking.{took, to_end_on}
use Rattle.bottoms.specs.Verdicts.{pass}

-- behind a part fewer are left, and the outcome is the same
pub record Passed {X : Type 0} (read : Reader X) (s t : State) : Type 0 where
  pub less : t.left < s.left
  pub same : to_end read pass s ≡ to_end read pass t

-- `a` is what the step answered
pub passed_on : {X : Type 0} (read : Reader X) (s t : State) (x : X) (a : Answer X) → a ≡ (step read s).0 → a ≡ Ok (Some x) → t ≡ (step read s).1 → Passed read s t
passed_on read s t x a told is after =
    let gave = sym told ∙ is in
    record {
      less = omega (arith, (took read s x gave).left, ap (λ r. r.left) after);
      same = to_end_on read s x pass gave ∙ ap (to_end read pass) (sym after);
    }
