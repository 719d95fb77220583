-- Steps of a cursor that is read to the end.
use Rattle.std.proofs.Common.{◌≡◌, ℕ, suc, ◌+◌, Bool, true, false, cond, eqb, ltb, length, Some, None, Ok, Err, Option, Result, sym, refl, ap, ◌∙◌, arith}
use Rattle.std.proofs.lemmas.Bool.{eqb-false}
use Rattle.fault.specs.declared.Fault.{Fault}
use Rattle.fault.specs.declared.Rule.TheVariants.{Trailing}
use Rattle.fault.specs.Faults.{fault}
use Rattle.wire.specs.Cursor.{State, Reader, failed, taken, ended, next_of, step}
use Rattle.wire.specs.Words.{then}
use Rattle.validator.specs.Verdicts.{Outcome, stepped, steps, to_end}

module _ {X : Type 0} (read : Reader X) (s : State) (x : X) where
  no_part : (b : Bool) → (cond b (failed {X = X} (fault Trailing s.place) s) (Ok None, s)).0 ≡ Ok (Some x) → ⊥
  no_part true e = let z : ◌≡◌ {A = ℕ} 0 1 = cc in omega arith
  no_part false e = let z : ◌≡◌ {A = ℕ} 0 1 = cc in omega arith

  -- a step that gave a part: how it was read, and where the cursor stands now
  pub record Took (t : State) : Type 0 where
    pub size : ℕ
    pub part : read s.bytes s.place ≡ Ok (x, size)
    pub place : t.place ≡ s.place + size
    pub left : suc t.left ≡ s.left
    pub bytes : t.bytes ≡ s.bytes

  part_taken : (r : Result (X × ℕ) Fault) → read s.bytes s.place ≡ r → (s.left ≡ 0 → ⊥) → (taken r s).0 ≡ Ok (Some x) → Took (taken r s).1
  part_taken (Ok p) is some e = let same : p.0 ≡ x = cc in record { size = p.1; part = is ∙ ap (λ y. Ok (y, p.1)) same; place = refl; left = omega arith; bytes = refl }
  part_taken (Err f) is some e = let z : ◌≡◌ {A = ℕ} 0 1 = cc in absurd (omega arith)

  part_by : (b : Bool) → eqb s.left 0 ≡ b → (cond b (ended s) (taken (read s.bytes s.place) s)).0 ≡ Ok (Some x) → Took (cond b (ended s) (taken (read s.bytes s.place) s)).1
  part_by true t e = absurd (no_part (ltb s.place (length s.bytes)) e)
  part_by false t e = part_taken (read s.bytes s.place) refl (eqb-false s.left 0 t) e

  part_of : (m : Option Fault) → (next_of read m s).0 ≡ Ok (Some x) → Took (next_of read m s).1
  part_of (Some f) e = let z : ◌≡◌ {A = ℕ} 0 1 = cc in absurd (omega arith)
  part_of None e = part_by (eqb s.left 0) refl e

  pub took : (step read s).0 ≡ Ok (Some x) → Took (step read s).1
  took e = part_of s.met e

  -- reading to the end is one part, and reading on to the end
  pub to_end_on : (visit : ℕ → X → Outcome) → (step read s).0 ≡ Ok (Some x) → to_end read visit s ≡ then (visit s.place x) (λ _. to_end read visit (step read s).1)
  to_end_on visit e =
      ap (λ a. stepped visit s.place a (steps read visit s.left (step read s).1)) e
      ∙ ap (λ n. then (visit s.place x) (λ _. steps read visit n (step read s).1)) (sym (took e).left)
