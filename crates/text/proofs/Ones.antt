-- The leading ones of an octet, and the octets that they announce.
use Rattle.std.proofs.Common.{◌≡◌, ℕ, ◌+◌, ◌-◌, ◌*◌, ◌^◌, ◌<◌, ◌≤◌, cond, eqb, Some, None, sym, refl, ap, ◌∙◌, ⊎_elim, arith, pow_mono}
use lib.Count.{count_leading_zeros, leading_unique, leading_length}
use Rattle.std.proofs.lemmas.Bool.{cases_lt, cond-false, ne_eqb}
use Rattle.std.proofs.lemmas.Bool.Decides.{nat_tests}
use Rattle.std.specs.Int.{leading_ones}
use mir.Syntax.{w8}
use Rattle.text.specs.Octets.{announced, counted, Tail}

-- b has n leading ones, and announces m octets
pub data Ones (b n m : ℕ) : Type 0 where
  ones0 : b < 0x80 → n ≡ 0 → m ≡ 1 → Ones b n m
  ones1 : 0x80 ≤ b → b < 0xC0 → n ≡ 1 → m ≡ 0 → Ones b n m
  ones2 : 0xC0 ≤ b → b < 0xE0 → n ≡ 2 → m ≡ 2 → Ones b n m
  ones3 : 0xE0 ≤ b → b < 0xF0 → n ≡ 3 → m ≡ 3 → Ones b n m
  ones4 : 0xF0 ≤ b → b < 0xF8 → n ≡ 4 → m ≡ 4 → Ones b n m
  ones5 : 0xF8 ≤ b → 5 ≤ n → m ≡ 0 → Ones b n m

pub ones : (b : ℕ) → b < 256 → Ones b (count_leading_zeros 8 (255 - b)) (announced b)
ones b h =
    ⊎_elim (λ u. ones0 u (zeros 0 8 refl (omega arith) (omega arith)) (grind (arith, nat_tests))) (λ l0. ⊎_elim
    (λ u. ones1 l0 u (zeros 1 7 refl (omega arith) (omega arith)) (grind (arith, nat_tests))) (λ l1. ⊎_elim
    (λ u. ones2 l1 u (zeros 2 6 refl (omega arith) (omega arith)) (grind (arith, nat_tests))) (λ l2. ⊎_elim
    (λ u. ones3 l2 u (zeros 3 5 refl (omega arith) (omega arith)) (grind (arith, nat_tests))) (λ l3. ⊎_elim
    (λ u. ones4 l3 u (zeros 4 4 refl (omega arith) (omega arith)) (grind (arith, nat_tests))) (λ l4. ones5 l4 (many l4) (grind (arith, nat_tests)))
    (cases_lt b 0xF8)) (cases_lt b 0xF0)) (cases_lt b 0xE0)) (cases_lt b 0xC0)) (cases_lt b 0x80)
  where
    zeros : (n k : ℕ) → n + k ≡ 8 → 255 - b < 2 ^ k → 2 ^ k ≤ 2 * (255 - b) + 1 → count_leading_zeros 8 (255 - b) ≡ n
    zeros n k e u l = sym (leading_unique 8 (255 - b) n k e u l)

    -- of fewer than five ones, 255 - b would have four digits or more
    many : 0xF8 ≤ b → 5 ≤ count_leading_zeros 8 (255 - b)
    many l =
        let t = leading_length 8 (255 - b) (omega arith) in
        ⊎_elim (λ g. omega (arith, t.1)) (λ g. absurd (omega (arith, t.3, pow_mono {i = 4} {j = t.0} g))) (cases_lt t.0 4)

-- what the leading ones announce behind ASCII
module _ (b : ℕ) (h : b < 256) (l : 0x80 ≤ b) where
  pub led : 2 ≤ leading_ones w8 b → leading_ones w8 b ≤ 4 → counted (announced b) ≡ Some (leading_ones w8 b)
  led p q =
      elim (ones b h) [
        | ones0 u _ _ ↦ absurd (omega arith)
        | ones1 _ _ k _ ↦ absurd (omega arith)
        | ones2 _ _ k m ↦ ap counted m ∙ sym (ap Some k)
        | ones3 _ _ k m ↦ ap counted m ∙ sym (ap Some k)
        | ones4 _ _ k m ↦ ap counted m ∙ sym (ap Some k)
        | ones5 _ k _ ↦ absurd (omega arith)
      ]

  pub unled : (2 ≤ leading_ones w8 b → leading_ones w8 b ≤ 4 → ⊥) → counted (announced b) ≡ None
  unled p =
      elim (ones b h) [
        | ones0 u _ _ ↦ absurd (omega arith)
        | ones1 _ _ _ m ↦ ap counted m
        | ones2 _ _ k _ ↦ absurd (p (omega arith) (omega arith))
        | ones3 _ _ k _ ↦ absurd (p (omega arith) (omega arith))
        | ones4 _ _ k _ ↦ absurd (p (omega arith) (omega arith))
        | ones5 _ _ m ↦ ap counted m
      ]

  pub led_few : leading_ones w8 b < 2 → counted (announced b) ≡ None
  led_few f = unled (λ p q. omega arith)

  pub led_many : 4 < leading_ones w8 b → counted (announced b) ≡ None
  led_many f = unled (λ p q. omega arith)

-- the octets that n leading ones announce
abbrev pub by_ones : ℕ → ℕ
by_ones n = cond (eqb n 0) 1 (cond (eqb n 2) 2 (cond (eqb n 3) 3 (cond (eqb n 4) 4 0)))

pub by_rest : (n : ℕ) → (n ≡ 0 → ⊥) → (n ≡ 2 → ⊥) → (n ≡ 3 → ⊥) → (n ≡ 4 → ⊥) → by_ones n ≡ 0
by_rest n p q r s = cond-false _ _ _ (ne_eqb n 0 p) ∙ cond-false _ _ _ (ne_eqb n 2 q) ∙ cond-false _ _ _ (ne_eqb n 3 r) ∙ cond-false _ _ _ (ne_eqb n 4 s)

pub announced_by : (b n : ℕ) → b < 256 → n ≡ count_leading_zeros 8 (255 - b) → by_ones n ≡ announced b
announced_by b n h e = ap by_ones e ∙ told (ones b h)
  where
    told : {k m : ℕ} → Ones b k m → by_ones k ≡ m
    told (ones0 _ p q) = ap by_ones p ∙ sym q
    told (ones1 _ _ p q) = ap by_ones p ∙ sym q
    told (ones2 _ _ p q) = ap by_ones p ∙ sym q
    told (ones3 _ _ p q) = ap by_ones p ∙ sym q
    told (ones4 _ _ p q) = ap by_ones p ∙ sym q
    told {k} (ones5 _ l q) = by_rest k (λ p. omega arith) (λ p. omega arith) (λ p. omega arith) (λ p. omega arith) ∙ sym q

-- a tail octet has one
module _ (b n m : ℕ) (o : Ones b n m) where
  pub tail_from : n ≡ 1 → Tail b
  tail_from e =
      elim o [
        | ones0 _ k _ ↦ absurd (omega arith)
        | ones1 l u _ _ ↦ (l, omega arith)
        | ones2 _ _ k _ ↦ absurd (omega arith)
        | ones3 _ _ k _ ↦ absurd (omega arith)
        | ones4 _ _ k _ ↦ absurd (omega arith)
        | ones5 _ l _ ↦ absurd (omega arith)
      ]

  pub from_tail : Tail b → n ≡ 1
  from_tail t =
      elim o [
        | ones0 u _ _ ↦ absurd (omega arith)
        | ones1 _ _ k _ ↦ k
        | ones2 l _ _ _ ↦ absurd (omega arith)
        | ones3 l _ _ _ ↦ absurd (omega arith)
        | ones4 l _ _ _ ↦ absurd (omega arith)
        | ones5 l _ _ ↦ absurd (omega arith)
      ]
