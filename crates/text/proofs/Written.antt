-- A character that is found is a scalar value's, and every scalar value's is found.
use Rattle.std.proofs.Common.{◌≡◌, ℕ, ◌+◌, ◌/◌, ◌<◌, ◌≤◌, List, [], ◌∷◌, ◌++◌, length, get_or, take, sym, ap, ◌∙◌, subst, inl, inr, ⊎_elim, arith}
use Rattle.std.proofs.lemmas.List.{drop_more}
use Rattle.std.proofs.lemmas.Bool.{cases_lt, cond-true, cond-false, lt-ltb, le-ltb}
use Rattle.text.specs.Octets.{Shortest}
use Rattle.text.specs.Recv.{character}
use Rattle.text.specs.Utf8.{Scalar, tail, octets}
use Rattle.text.proofs.Leads.{drop_two, drop_three, drop_four}
use Rattle.text.proofs.Rows.{Two, Three, Four, in0, in1, in2, in3, in4, of_two, of_three, of_four, kind, is_one, is_two, is_three, is_four}

module _ (c : ℕ) where
  in_one : c < 0x80 → octets c ≡ c ∷ []
  in_one h = cond-true _ _ _ (lt-ltb c 0x80 h)

  in_two : 0x80 ≤ c → c < 0x800 → octets c ≡ (0xC0 + c / 64) ∷ tail c ∷ []
  in_two l h = cond-false _ _ _ (le-ltb c 0x80 l) ∙ cond-true _ _ _ (lt-ltb c 0x800 h)

  in_three : 0x800 ≤ c → c < 0x10000 → octets c ≡ (0xE0 + c / 4096) ∷ tail (c / 64) ∷ tail c ∷ []
  in_three l h = cond-false _ _ _ (le-ltb c 0x80 (omega arith)) ∙ cond-false _ _ _ (le-ltb c 0x800 l) ∙ cond-true _ _ _ (lt-ltb c 0x10000 h)

  in_four : 0x10000 ≤ c → octets c ≡ (0xF0 + c / 262144) ∷ tail (c / 4096) ∷ tail (c / 64) ∷ tail c ∷ []
  in_four l = cond-false _ _ _ (le-ltb c 0x80 (omega arith)) ∙ cond-false _ _ _ (le-ltb c 0x800 (omega arith)) ∙ cond-false _ _ _ (le-ltb c 0x10000 l)

  below : Scalar c → c < 0x110000
  below (inl h) = omega arith
  below (inr h) = omega arith

-- the scalar value that the octets write
two_write : (a b : ℕ) → Two a b → octets (of_two a b) ≡ a ∷ b ∷ []
two_write a b t =
    let c = of_two a b in
    let p : 0xC0 + c / 64 ≡ a = omega arith in
    let q : tail c ≡ b = omega arith in
    in_two c (omega arith) (omega arith) ∙ (λ i. p i ∷ q i ∷ [])

three_write : (a b d : ℕ) → Three a b d → octets (of_three a b d) ≡ a ∷ b ∷ d ∷ []
three_write a b d t =
    let c = of_three a b d in
    let p : 0xE0 + c / 4096 ≡ a = omega arith in
    let q : tail (c / 64) ≡ b = omega arith in
    let r : tail c ≡ d = omega arith in
    in_three c (omega arith) (omega arith) ∙ (λ i. p i ∷ q i ∷ r i ∷ [])

four_write : (a b d e : ℕ) → Four a b d e → octets (of_four a b d e) ≡ a ∷ b ∷ d ∷ e ∷ []
four_write a b d e t =
    let c = of_four a b d e in
    let p : 0xF0 + c / 262144 ≡ a = omega arith in
    let q : tail (c / 4096) ≡ b = omega arith in
    let r : tail (c / 64) ≡ d = omega arith in
    let s : tail c ≡ e = omega arith in
    in_four c (omega arith) ∙ (λ i. p i ∷ q i ∷ r i ∷ s i ∷ [])

pub written : (bs : List ℕ) → 0 < character bs → (c : ℕ) × Scalar c × (octets c ≡ take (character bs) bs)
written bs h =
    let cut : (n : ℕ) → character bs ≡ n → take n bs ≡ take (character bs) bs = λ n k. ap (λ m. take m bs) (sym k) in
    elim (kind bs) [
      | in0 _ k ↦ absurd (omega arith)
      | in1 n l k ↦ (get_or bs 0 0, inl (omega arith), in_one (get_or bs 0 0) l ∙ sym (ap (take 1) (drop_more bs 0 0 n)) ∙ cut 1 k)
      | in2 n t k ↦ (_, t.shortest.1, two_write _ _ t ∙ sym (ap (take 2) (drop_two bs 0 n)) ∙ cut 2 k)
      | in3 n t k ↦ (_, t.shortest.1, three_write _ _ _ t ∙ sym (ap (take 3) (drop_three bs 0 n)) ∙ cut 3 k)
      | in4 n t k ↦ (_, t.shortest.1, four_write _ _ _ _ t ∙ sym (ap (take 4) (drop_four bs 0 n)) ∙ cut 4 k)
    ]

-- a scalar value's octets are found
module _ (c : ℕ) (rest : List ℕ) (s : Scalar c) where
  abbrev Found : List ℕ → Type 0
  Found o = character (o ++ rest) ≡ length o

  one : c < 0x80 → Found (octets c)
  one h = subst Found (sym (in_one c h)) (is_one (c ∷ rest) (omega arith) h)

  two : 0x80 ≤ c → c < 0x800 → Found (octets c)
  two l h =
      let v : c ≡ of_two (0xC0 + c / 64) (tail c) = omega arith in
      subst Found (sym (in_two c l h)) (is_two ((0xC0 + c / 64) ∷ tail c ∷ rest) (omega arith) (record {
        lead = (omega arith, omega arith);
        second = (omega arith, omega arith);
        shortest = subst (Shortest 0x80) v (l, s);
      }))

  three : 0x800 ≤ c → c < 0x10000 → Found (octets c)
  three l h =
      let v : c ≡ of_three (0xE0 + c / 4096) (tail (c / 64)) (tail c) = omega arith in
      subst Found (sym (in_three c l h)) (is_three ((0xE0 + c / 4096) ∷ tail (c / 64) ∷ tail c ∷ rest) (omega arith) (record {
        lead = (omega arith, omega arith);
        second = (omega arith, omega arith);
        third = (omega arith, omega arith);
        shortest = subst (Shortest 0x800) v (l, s);
      }))

  four : 0x10000 ≤ c → Found (octets c)
  four l =
      let top : c < 0x110000 = below c s in
      let v : c ≡ of_four (0xF0 + c / 262144) (tail (c / 4096)) (tail (c / 64)) (tail c) = omega arith in
      subst Found (sym (in_four c l)) (is_four ((0xF0 + c / 262144) ∷ tail (c / 4096) ∷ tail (c / 64) ∷ tail c ∷ rest) (omega arith) (record {
        lead = (omega arith, omega arith);
        second = (omega arith, omega arith);
        third = (omega arith, omega arith);
        fourth = (omega arith, omega arith);
        shortest = subst (Shortest 0x10000) v (l, s);
      }))

  pub starts : character (octets c ++ rest) ≡ length (octets c)
  starts = ⊎_elim one (λ l. ⊎_elim (two l) (λ l. ⊎_elim (three l) four (cases_lt c 0x10000)) (cases_lt c 0x800)) (cases_lt c 0x80)
