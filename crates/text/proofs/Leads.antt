-- What the announced length tells of the bytes from a place on.
use Rattle.std.proofs.Common.{◌≡◌, ℕ, zero, suc, ◌+◌, ◌<◌, ◌≤◌, Bool, true, false, cond, Some, None, List, ◌∷◌, length, get_or, drop, sym, refl, ap, ◌∙◌, add_assoc, arith}
use Rattle.std.proofs.lemmas.List.{drop_more}
use Rattle.std.proofs.lemmas.Option.{none-some}
use Rattle.std.proofs.lemmas.Bool.{cond-false, ne_eqb}
use Rattle.std.specs.Bool.{then_some}
use Rattle.std.specs.Option.{unwrap_or}
use Rattle.text.specs.Octets.{announced, counted}
use Rattle.text.specs.Recv.{character}
use Rattle.text.proofs.Ones.{ones0, ones1, ones2, ones3, ones4, ones5, ones}
use Rattle.text.proofs.Rows.{is_one, is_none, not_two, not_three, not_four}

module _ (b : ℕ) (rest : List ℕ) (h : b < 256) where
  -- too few bytes
  pub too_short : length (b ∷ rest) < announced b → character (b ∷ rest) ≡ 0
  too_short s =
      elim (ones b h) [
        | ones0 _ _ k ↦ absurd (omega arith)
        | ones1 _ _ _ k ↦ absurd (omega arith)
        | ones2 l u _ k ↦ not_two (b ∷ rest) (l, u) (λ n _. omega arith)
        | ones3 l u _ k ↦ not_three (b ∷ rest) (l, u) (λ n _. omega arith)
        | ones4 l u _ k ↦ not_four (b ∷ rest) (l, u) (λ n _. omega arith)
        | ones5 _ _ k ↦ absurd (omega arith)
      ]

  pub led_one : announced b ≡ 1 → character (b ∷ rest) ≡ 1
  led_one e =
      elim (ones b h) [
        | ones0 u _ _ ↦ is_one (b ∷ rest) (omega arith) u
        | ones1 _ _ _ k ↦ absurd (omega arith)
        | ones2 _ _ _ k ↦ absurd (omega arith)
        | ones3 _ _ _ k ↦ absurd (omega arith)
        | ones4 _ _ _ k ↦ absurd (omega arith)
        | ones5 _ _ k ↦ absurd (omega arith)
      ]

  -- no length
  pub no_lead : announced b ≡ 0 → character (b ∷ rest) ≡ 0
  no_lead z =
      elim (ones b h) [
        | ones0 _ _ k ↦ absurd (omega arith)
        | ones1 l u _ _ ↦ is_none (b ∷ rest) (λ _ t. omega arith) (λ _ t. omega arith) (λ _ t. omega arith) (λ _ t. omega arith)
        | ones2 _ _ _ k ↦ absurd (omega arith)
        | ones3 _ _ _ k ↦ absurd (omega arith)
        | ones4 _ _ _ k ↦ absurd (omega arith)
        | ones5 l _ _ ↦ is_none (b ∷ rest) (λ _ t. omega arith) (λ _ t. omega arith) (λ _ t. omega arith) (λ _ t. omega arith)
      ]

  -- a length that is neither 2 nor 3
  pub lead_four : 0x80 ≤ b → 0 < announced b → (announced b ≡ 2 → ⊥) → (announced b ≡ 3 → ⊥) → announced b ≡ 4
  lead_four l p q r =
      elim (ones b h) [
        | ones0 u _ _ ↦ absurd (omega arith)
        | ones1 _ _ _ k ↦ absurd (omega arith)
        | ones2 _ _ _ k ↦ absurd (q k)
        | ones3 _ _ _ k ↦ absurd (r k)
        | ones4 _ _ _ k ↦ k
        | ones5 _ _ k ↦ absurd (omega arith)
      ]

-- a length that is counted, and one that is not
some_counted : (n : ℕ) → 0 < n → counted n ≡ Some n
some_counted n h = cond-false _ _ _ (ne_eqb n 0 (λ e. omega arith))

pub uncounted : (n : ℕ) → None ≡ counted n → n ≡ 0
uncounted zero e = refl
uncounted (suc n) e = absurd (none-some (suc n) (e ∙ some_counted (suc n) (omega arith)))

pub counted_is : (n m : ℕ) → Some m ≡ counted n → (m ≡ n) × (0 < n)
counted_is zero m e = absurd (none-some m (sym e))
counted_is (suc n) m e = (ap (λ o. unwrap_or o 0) (e ∙ some_counted (suc n) (omega arith)), omega arith)

-- a test that stands for a length
pub tested : (r : Bool) (n : ℕ) → 0 < n → then_some r n ≡ counted (cond r n 0)
tested true n h = sym (some_counted n h)
tested false n h = refl

-- C0 and C1 begin no shortest form
pub overlong : (b : ℕ) (rest : List ℕ) → 0xC0 ≤ b → b < 0xC2 → character (b ∷ rest) ≡ 0
overlong b rest l u = not_two (b ∷ rest) (l, omega arith) (λ _ t. omega arith)

module _ (bs : List ℕ) (at : ℕ) where
  next : (k : ℕ) → at + k < length bs → drop (at + k) bs ≡ get_or bs (at + k) 0 ∷ drop (at + (k + 1)) bs
  next k h = drop_more bs (at + k) 0 h ∙ ap (λ n. get_or bs (at + k) 0 ∷ drop n bs) (add_assoc at k 1)

  pub drop_two : at + 2 ≤ length bs → drop at bs ≡ get_or bs at 0 ∷ get_or bs (at + 1) 0 ∷ drop (at + 2) bs
  drop_two h = drop_more bs at 0 (omega arith) ∙ ap (λ l. get_or bs at 0 ∷ l) (next 1 (omega arith))

  pub drop_three : at + 3 ≤ length bs → drop at bs ≡ get_or bs at 0 ∷ get_or bs (at + 1) 0 ∷ get_or bs (at + 2) 0 ∷ drop (at + 3) bs
  drop_three h = drop_two (omega arith) ∙ ap (λ l. get_or bs at 0 ∷ get_or bs (at + 1) 0 ∷ l) (next 2 (omega arith))

  pub drop_four : at + 4 ≤ length bs → drop at bs ≡ get_or bs at 0 ∷ get_or bs (at + 1) 0 ∷ get_or bs (at + 2) 0 ∷ get_or bs (at + 3) 0 ∷ drop (at + 4) bs
  drop_four h = drop_three (omega arith) ∙ ap (λ l. get_or bs at 0 ∷ get_or bs (at + 1) 0 ∷ get_or bs (at + 2) 0 ∷ l) (next 3 (omega arith))
