-- The rows of RFC 3629, section 4, and the values that their octets write.
use Rattle.std.proofs.Common.{◌≡◌, ℕ, suc, ◌+◌, ◌*◌, ◌%◌, ◌<◌, ◌≤◌, Bool, true, false, cond, Decides, ◌&&◌, leb, List, [], ◌∷◌, length, get_or, drop, sym, refl, ap, ◌∙◌, subst, inl, inr, ⊎_elim, arith, drop-cons}
use Rattle.std.proofs.lemmas.List.{drop_all}
use Rattle.std.proofs.lemmas.Bool.{cases_lt, cases_Bool, cond-true, cond-false, leb-true, le-leb, and_parts, and_from, both_ways, false≢true}
use Rattle.std.specs.List.{AllByRecursion}
use Rattle.text.specs.Octets.{Tail, Shortest}
use Rattle.text.specs.Recv.{Octet, alternatives, begins, begun, character}

-- the bytes from k on begin with a row
abbrev Fit : List Octet → ℕ → List ℕ → Type 0
Fit [] k bs = Unit {0}
Fit (o ∷ os) k bs = (k < length bs) × (o.first ≤ get_or bs k 0) × (get_or bs k 0 ≤ o.last) × Fit os (suc k) bs

fits : (os : List Octet) (k : ℕ) (bs : List ℕ) → begins os (drop k bs) ≡ true → Fit os k bs
fits [] k bs e = tt
fits (o ∷ os) k bs e = ⊎_elim (λ h. here h (fits os (suc k) bs)) past (cases_lt k (length bs))
  where
    here : k < length bs → (begins os (drop (suc k) bs) ≡ true → Fit os (suc k) bs) → Fit (o ∷ os) k bs
    here h rest =
        let at = get_or bs k 0 in
        let cut : begins (o ∷ os) (at ∷ drop (suc k) bs) ≡ true = ap (begins (o ∷ os)) (sym (drop-cons bs k 0 h)) ∙ e in
        let p = and_parts (leb o.first at && leb at o.last) (begins os (drop (suc k) bs)) cut in
        let q = and_parts (leb o.first at) (leb at o.last) p.0 in
        (h, leb-true o.first at q.0, leb-true at o.last q.1, rest p.1)

    past : length bs ≤ k → Fit (o ∷ os) k bs
    past h = absurd (false≢true (ap (begins (o ∷ os)) (sym (drop_all k bs h)) ∙ e))

fitting : (os : List Octet) (k : ℕ) (bs : List ℕ) → Fit os k bs → begins os (drop k bs) ≡ true
fitting [] k bs f = refl
fitting (o ∷ os) k bs f =
    let at = get_or bs k 0 in
    ap (begins (o ∷ os)) (drop-cons bs k 0 f.0)
    ∙ and_from (leb o.first at && leb at o.last) (begins os (drop (suc k) bs))
    (and_from (leb o.first at) (leb at o.last) (le-leb o.first at f.1) (le-leb at o.last f.2))
    (fitting os (suc k) bs f.3)

-- what holds of the length of each row that fits, and of 0 where none does, holds of the length that is found
found : (rs : List (List Octet)) (bs : List ℕ) (P : ℕ → Type 0) → (AllByRecursion (λ r. Fit r 0 bs → ⊥) rs → P 0) → AllByRecursion (λ r. Fit r 0 bs → P (length r)) rs → P (begun rs bs)
found [] bs P none each = none tt
found (r ∷ rs) bs P none each = ⊎_elim yes (λ e. no e (found rs bs P (λ rest. none (never e, rest)) each.1)) (cases_Bool (begins r bs))
  where
    never : begins r bs ≡ false → Fit r 0 bs → ⊥
    never e f = both_ways (begins r bs) e (fitting r 0 bs f)

    yes : begins r bs ≡ true → P (begun (r ∷ rs) bs)
    yes e = subst P (sym (cond-true (begins r bs) (length r) (begun rs bs) e)) (each.0 (fits r 0 bs e))

    no : begins r bs ≡ false → P (begun rs bs) → P (begun (r ∷ rs) bs)
    no e p = subst P (sym (cond-false (begins r bs) (length r) (begun rs bs) e)) p

-- the values of two, three and four octets
abbrev pub of_two : ℕ → ℕ → ℕ
of_two a b = a % 32 * 64 + b % 64

abbrev pub of_three : ℕ → ℕ → ℕ → ℕ
of_three a b d = (a % 16 * 64 + b % 64) * 64 + d % 64

abbrev pub of_four : ℕ → ℕ → ℕ → ℕ → ℕ
of_four a b d e = ((a % 8 * 64 + b % 64) * 64 + d % 64) * 64 + e % 64

-- octets that are a character in its shortest form
pub record Two (a b : ℕ) : Type 0 where
  pub lead : (0xC0 ≤ a) × (a < 0xE0)
  pub second : Tail b
  pub shortest : Shortest 0x80 (of_two a b)

pub record Three (a b d : ℕ) : Type 0 where
  pub lead : (0xE0 ≤ a) × (a < 0xF0)
  pub second : Tail b
  pub third : Tail d
  pub shortest : Shortest 0x800 (of_three a b d)

pub record Four (a b d e : ℕ) : Type 0 where
  pub lead : (0xF0 ≤ a) × (a < 0xF8)
  pub second : Tail b
  pub third : Tail d
  pub fourth : Tail e
  pub shortest : Shortest 0x10000 (of_four a b d e)

-- the character of n bytes that the bytes begin with
pub data Kind (bs : List ℕ) (n : ℕ) : Type 0 where
  in0 : AllByRecursion (λ r. Fit r 0 bs → ⊥) alternatives → n ≡ 0 → Kind bs n
  in1 : 1 ≤ length bs → get_or bs 0 0 < 0x80 → n ≡ 1 → Kind bs n
  in2 : 2 ≤ length bs → Two (get_or bs 0 0) (get_or bs 1 0) → n ≡ 2 → Kind bs n
  in3 : 3 ≤ length bs → Three (get_or bs 0 0) (get_or bs 1 0) (get_or bs 2 0) → n ≡ 3 → Kind bs n
  in4 : 4 ≤ length bs → Four (get_or bs 0 0) (get_or bs 1 0) (get_or bs 2 0) (get_or bs 3 0) → n ≡ 4 → Kind bs n

module _ (bs : List ℕ) where
  abbrev a : ℕ
  a = get_or bs 0 0

  abbrev b : ℕ
  b = get_or bs 1 0

  abbrev d : ℕ
  d = get_or bs 2 0

  abbrev e : ℕ
  e = get_or bs 3 0

  two : 2 ≤ length bs → (0xC0 ≤ a) × (a < 0xE0) → Tail b → Shortest 0x80 (of_two a b) → Kind bs 2
  two n l s v = in2 n (record { lead = l; second = s; shortest = v }) refl

  three : 3 ≤ length bs → (0xE0 ≤ a) × (a < 0xF0) → Tail b → Tail d → Shortest 0x800 (of_three a b d) → Kind bs 3
  three n l s t v = in3 n (record { lead = l; second = s; third = t; shortest = v }) refl

  four : 4 ≤ length bs → (0xF0 ≤ a) × (a < 0xF8) → Tail b → Tail d → Tail e → Shortest 0x10000 (of_four a b d e) → Kind bs 4
  four n l s t u v = in4 n (record { lead = l; second = s; third = t; fourth = u; shortest = v }) refl

  pub kind : Kind bs (character bs)
  unfolding character
  kind =
      found alternatives bs (Kind bs) (λ none. in0 none refl) (
        (λ f. in1 (omega arith) (omega arith) refl),
        (
          (λ f. two (omega arith) (omega arith, omega arith) (omega arith, omega arith) (omega arith, inl (omega arith))),
          (
            (λ f. three (omega arith) (omega arith, omega arith) (omega arith, omega arith) (omega arith, omega arith) (omega arith, inl (omega arith))),
            (
              (λ f. three (omega arith) (omega arith, omega arith) (omega arith, omega arith) (omega arith, omega arith) (omega arith, inl (omega arith))),
              (
                (λ f. three (omega arith) (omega arith, omega arith) (omega arith, omega arith) (omega arith, omega arith) (omega arith, inl (omega arith))),
                (
                  (λ f. three (omega arith) (omega arith, omega arith) (omega arith, omega arith) (omega arith, omega arith) (omega arith, inr (omega arith, omega arith))),
                  (
                    (λ f. four (omega arith) (omega arith, omega arith) (omega arith, omega arith) (omega arith, omega arith) (omega arith, omega arith) (omega arith, inr (omega arith, omega arith))),
                    (
                      (λ f. four (omega arith) (omega arith, omega arith) (omega arith, omega arith) (omega arith, omega arith) (omega arith, omega arith) (omega arith, inr (omega arith, omega arith))),
                      ((λ f. four (omega arith) (omega arith, omega arith) (omega arith, omega arith) (omega arith, omega arith) (omega arith, omega arith) (omega arith, inr (omega arith, omega arith))), tt),
                    ),
                  ),
                ),
              ),
            ),
          ),
        ),
      )

  -- the lengths told apart
  pub is_one : 1 ≤ length bs → a < 0x80 → character bs ≡ 1
  is_one n l =
      elim kind [
        | in0 none _ ↦ absurd (none.0 (omega arith, omega arith, omega arith, tt))
        | in1 _ _ k ↦ k
        | in2 _ t _ ↦ absurd (omega arith)
        | in3 _ t _ ↦ absurd (omega arith)
        | in4 _ t _ ↦ absurd (omega arith)
      ]

  pub is_two : 2 ≤ length bs → Two a b → character bs ≡ 2
  is_two n s =
      elim kind [
        | in0 none _ ↦ absurd (none.1.0 (omega arith, omega arith, omega arith, (omega arith, omega arith, omega arith, tt)))
        | in1 _ l _ ↦ absurd (omega arith)
        | in2 _ _ k ↦ k
        | in3 _ t _ ↦ absurd (omega arith)
        | in4 _ t _ ↦ absurd (omega arith)
      ]

  pub is_three : 3 ≤ length bs → Three a b d → character bs ≡ 3
  is_three n s =
      elim kind [
        | in0 none _ ↦
            absurd (⊎_elim
            (λ h. none.1.1.0 (omega arith, omega arith, omega arith, (omega arith, omega arith, omega arith, (omega arith, omega arith, omega arith, tt))))
            (λ g. ⊎_elim
            (λ h. none.1.1.1.0 (omega arith, omega arith, omega arith, (omega arith, omega arith, omega arith, (omega arith, omega arith, omega arith, tt))))
            (λ g'. ⊎_elim
            (λ h. none.1.1.1.1.0 (omega arith, omega arith, omega arith, (omega arith, omega arith, ⊎_elim (λ v. omega arith) (λ v. omega arith) s.shortest.1, (omega arith, omega arith, omega arith, tt))))
            (λ h. none.1.1.1.1.1.0 (omega arith, omega arith, omega arith, (omega arith, omega arith, omega arith, (omega arith, omega arith, omega arith, tt))))
            (cases_lt a 0xEE)) (cases_lt a 0xED)) (cases_lt a 0xE1))
        | in1 _ l _ ↦ absurd (omega arith)
        | in2 _ t _ ↦ absurd (omega arith)
        | in3 _ _ k ↦ k
        | in4 _ t _ ↦ absurd (omega arith)
      ]

  pub is_four : 4 ≤ length bs → Four a b d e → character bs ≡ 4
  is_four n s =
      let v = s.shortest.1 in
      elim kind [
        | in0 none _ ↦
            absurd (⊎_elim
            (λ h. none.1.1.1.1.1.1.0 (omega arith, omega arith, omega arith, (omega arith, omega arith, omega arith, (omega arith, omega arith, omega arith, (omega arith, omega arith, omega arith, tt)))))
            (λ g. ⊎_elim
            (λ h. none.1.1.1.1.1.1.1.0 (omega arith, omega arith, omega arith, (omega arith, omega arith, omega arith, (omega arith, omega arith, omega arith, (omega arith, omega arith, omega arith, tt)))))
            (λ h. none.1.1.1.1.1.1.1.1.0 (omega arith, omega arith, ⊎_elim (λ v. omega arith) (λ v. omega arith) v, (omega arith, omega arith, ⊎_elim (λ v. omega arith) (λ v. omega arith) v, (omega arith, omega arith, omega arith, (omega arith, omega arith, omega arith, tt)))))
            (cases_lt a 0xF4)) (cases_lt a 0xF1))
        | in1 _ l _ ↦ absurd (omega arith)
        | in2 _ t _ ↦ absurd (omega arith)
        | in3 _ t _ ↦ absurd (omega arith)
        | in4 _ _ k ↦ k
      ]

  -- no character begins the bytes
  pub is_none : (1 ≤ length bs → a < 0x80 → ⊥) → (2 ≤ length bs → Two a b → ⊥) → (3 ≤ length bs → Three a b d → ⊥) → (4 ≤ length bs → Four a b d e → ⊥) → character bs ≡ 0
  is_none p q r s =
      elim kind [
        | in0 _ k ↦ k
        | in1 n t _ ↦ absurd (p n t)
        | in2 n t _ ↦ absurd (q n t)
        | in3 n t _ ↦ absurd (r n t)
        | in4 n t _ ↦ absurd (s n t)
      ]

  -- the same where the first octet announces two, three or four
  pub not_two : (0xC0 ≤ a) × (a < 0xE0) → (2 ≤ length bs → Two a b → ⊥) → character bs ≡ 0
  not_two l q = is_none (λ _ t. omega arith) q (λ _ t. omega arith) (λ _ t. omega arith)

  pub not_three : (0xE0 ≤ a) × (a < 0xF0) → (3 ≤ length bs → Three a b d → ⊥) → character bs ≡ 0
  not_three l r = is_none (λ _ t. omega arith) (λ _ t. omega arith) r (λ _ t. omega arith)

  pub not_four : (0xF0 ≤ a) × (a < 0xF8) → (4 ≤ length bs → Four a b d e → ⊥) → character bs ≡ 0
  not_four l s = is_none (λ _ t. omega arith) (λ _ t. omega arith) (λ _ t. omega arith) s  -- a test for the octets of a character, and its length

  pub told_two : (r : Bool) → (0xC0 ≤ a) × (a < 0xE0) → 2 ≤ length bs → Decides r (Two a b) → cond r 2 0 ≡ character bs
  told_two true l n w = sym (is_two n (w.0 refl))
  told_two false l n w = sym (not_two l (λ _ t. absurd (false≢true (w.1 t))))

  pub told_three : (r : Bool) → (0xE0 ≤ a) × (a < 0xF0) → 3 ≤ length bs → Decides r (Three a b d) → cond r 3 0 ≡ character bs
  told_three true l n w = sym (is_three n (w.0 refl))
  told_three false l n w = sym (not_three l (λ _ t. absurd (false≢true (w.1 t))))

  pub told_four : (r : Bool) → (0xF0 ≤ a) × (a < 0xF8) → 4 ≤ length bs → Decides r (Four a b d e) → cond r 4 0 ≡ character bs
  told_four true l n w = sym (is_four n (w.0 refl))
  told_four false l n w = sym (not_four l (λ _ t. absurd (false≢true (w.1 t))))

  pub character_within : character bs ≤ length bs
  character_within = elim kind [ in0 _ k ↦ omega arith | in1 n _ k ↦ omega arith | in2 n _ k ↦ omega arith | in3 n _ k ↦ omega arith | in4 n _ k ↦ omega arith ]
