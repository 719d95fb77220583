-- A signed number by its sign and its size.
use Rattle.std.proofs.Common.{◌≡◌, ℕ, suc, true, false, List, [], ◌∷◌, ◌++◌, ℤ, pos, negsuc, nat_abs, decimal, sym, refl, ap, ◌∙◌, arith, w32, SFits, to_z, of_z}
use lib.Signed.{lt_z}
use Rattle.std.proofs.lemmas.List.{append_assoc}
use Rattle.std.proofs.lemmas.Int.{to_z-of_z}
use Rattle.std.proofs.lemmas.Bool.{ltb-true}
use Rattle.answers.specs.Plain.{signed_text}

below : (out : List ℕ) (z : ℤ) → lt_z z (pos 0) ≡ true → (out ++ (45 ∷ [])) ++ decimal (nat_abs z) ≡ out ++ signed_text z
below out (pos n) e = let z = ltb-true n 0 e in absurd (omega arith)
below out (negsuc n) e = append_assoc out (45 ∷ []) (decimal (suc n))

above : (z : ℤ) → lt_z z (pos 0) ≡ false → decimal (nat_abs z) ≡ signed_text z
above (pos n) e = refl
above (negsuc n) e = let z : ◌≡◌ {A = ℕ} 0 1 = cc in absurd (omega arith)

module _ (out : List ℕ) (z : ℤ) (size : ℕ) (fits : SFits w32 z) where
  pub minus : lt_z (to_z w32 (of_z w32 z)) (pos 0) ≡ true → size ≡ nat_abs (to_z w32 (of_z w32 z)) → (out ++ (45 ∷ [])) ++ decimal size ≡ out ++ signed_text z
  minus sign is =
      let same = to_z-of_z w32 z fits in
      ap (λ n. (out ++ (45 ∷ [])) ++ decimal n) (is ∙ ap nat_abs same) ∙ below out z (ap (λ y. lt_z y (pos 0)) (sym same) ∙ sign)

  pub plain : lt_z (to_z w32 (of_z w32 z)) (pos 0) ≡ false → size ≡ nat_abs (to_z w32 (of_z w32 z)) → out ++ decimal size ≡ out ++ signed_text z
  plain sign is =
      let same = to_z-of_z w32 z fits in
      ap (λ n. out ++ decimal n) (is ∙ ap nat_abs same) ∙ ap (λ l. out ++ l) (above z (ap (λ y. lt_z y (pos 0)) (sym same) ∙ sign))
