-- A word by its digits.
use Rattle.std.proofs.Common.{◌≡◌, ℕ, ◌+◌, ◌-◌, ◌*◌, ◌^◌, ◌<◌, ◌≤◌, cond, ◌&&◌, leb, List, [], ◌∷◌, length, get_or, drop, Some, None, Option, sym, refl, ap, ◌∙◌, pow-suc, add-one, arith}
use native.Mathlib.Nat.{pow-le-pow_right}
use Rattle.std.proofs.lemmas.List.{at_drop_more, at_drop_all}
use Rattle.std.proofs.lemmas.Bool.{and_parts, cond_both, cond-true, eq-eqb, leb-true}
use Rattle.syntax.specs.Parsed.{nibble}
use Rattle.shapeline.specs.Words.{with_nibble, hex_after, word_in}

-- a digit is below 16
abbrev Small : Option ℕ → Type 0
Small o = (d : ℕ) → Some d ≡ o → d < 16

pub nibble_small : (c : ℕ) → Small (nibble c)
nibble_small c =
    cond_both (leb 48 c && leb c 57) (Some (c - 48)) (cond (leb 97 c && leb c 102) (Some (c - 87)) None) Small
    (λ t d e. let is : d ≡ c - 48 = cc in omega (arith, leb-true c 57 (and_parts (leb 48 c) (leb c 57) t).1))
    (λ _. cond_both (leb 97 c && leb c 102) (Some (c - 87)) None Small
    (λ t d e. let is : d ≡ c - 87 = cc in omega (arith, leb-true c 102 (and_parts (leb 97 c) (leb c 102) t).1))
    (λ _ d e. let z : ◌≡◌ {A = ℕ} 0 1 = cc in absurd (omega arith)))

-- fewer than 16 digits leave room for one more
pub word_room : (n i : ℕ) → n < 16 ^ i → i < 16 → n < 2 ^ 60
word_room n i h less =
    let some : 0 < 16 = omega arith in
    let few : i ≤ 15 = omega arith in
    let le : 16 ^ i ≤ 16 ^ 15 = pow-le-pow_right some few in
    omega arith

hex_none : (cs : List ℕ) → hex_after None cs ≡ None
hex_none [] = refl
hex_none (c ∷ cs) = refl

-- n is the word of the first i digits
module _ (ds : List ℕ) (n i : ℕ) (inv : hex_after (Some n) (drop i ds) ≡ hex_after (Some 0) ds) (long : length ds ≡ 16) where
  whole : hex_after (Some 0) ds ≡ word_in ds
  whole = sym (cond-true _ _ _ (eq-eqb (length ds) 16 long))

  next : i < length ds → (o : Option ℕ) → o ≡ nibble (get_or ds i 0) → hex_after (with_nibble n o) (drop (i + 1) ds) ≡ hex_after (Some 0) ds
  next h o e = ap (λ d. hex_after (with_nibble n d) (drop (i + 1) ds)) e ∙ sym (at_drop_more (hex_after (Some n)) ds i 0 h) ∙ inv

  pub word_more : (d : ℕ) → i < length ds → Some d ≡ nibble (get_or ds i 0) → hex_after (Some (n * 16 + d)) (drop (i + 1) ds) ≡ hex_after (Some 0) ds
  word_more d h e = next h (Some d) e

  pub word_broken : i < length ds → None ≡ nibble (get_or ds i 0) → word_in ds ≡ None
  word_broken h e = sym whole ∙ sym (next h None e) ∙ hex_none (drop (i + 1) ds)

  pub word_end : length ds ≤ i → word_in ds ≡ Some n
  word_end h = sym whole ∙ sym inv ∙ at_drop_all (hex_after (Some n)) ds i h

pub word_grows : (n i d c : ℕ) → n < 16 ^ i → Some d ≡ nibble c → n * 16 + d < 16 ^ (i + 1)
word_grows n i d c h e = let small = nibble_small c d e in rw (add-one, pow-suc) (omega arith)
