-- Words, byte by byte; and there and back, at every width.
use Rattle.std.proofs.Common.{◌≡◌, ℕ, zero, suc, ◌+◌, ◌*◌, ◌/◌, ◌%◌, ◌^◌, ◌<◌, ◌≤◌, List, [], ◌∷◌, ◌++◌, length, get_or, take, drop, sym, refl, ap, ◌∙◌, add-zero, pow-suc, add-one, arith}
use native.Mathlib.Nat.{div-div-eq-div-mul}
use Rattle.std.proofs.lemmas.Nat.{div-mul-add, mod-mul-add, div-add-mod', div_below}
use Rattle.std.proofs.lemmas.Int.Digits.{number_push, number_more}
use Rattle.std.proofs.ByRecursion.{All-get_or}
use Rattle.std.proofs.lemmas.List.{get_or-drop, length-drop, length-append, take_more, take_at, drop_at}
use Rattle.std.specs.Int.Digits.{number_from_digits}
use Rattle.wire.specs.Bytes.{Octets}
use Rattle.wire.specs.Words.{be, word}

-- one byte more
pub word_more : (w : ℕ) (bs : List ℕ) (at : ℕ) → at + w < length bs → word (w + 1) bs at ≡ word w bs at * 256 + get_or bs (at + w) 0
word_more w bs at h =
    number_more 256 (drop at bs) w (simp length-drop (omega arith)) ∙ ap (λ b. word w bs at * 256 + b) (get_or-drop at bs w 0)

module _ (bs : List ℕ) (at : ℕ) where
  pub word_1 : at < length bs → word 1 bs at ≡ get_or bs at 0
  word_1 h = let z = add-zero at in omega (arith, word_more 0 bs at (omega arith), ap (λ k. get_or bs k 0) z)

  pub word_4 : at + 4 ≤ length bs → word 4 bs at ≡ get_or bs at 0 * 16777216 + get_or bs (at + 1) 0 * 65536 + get_or bs (at + 2) 0 * 256 + get_or bs (at + 3) 0
  word_4 h = omega (arith, word_1 (omega arith), word_more 1 bs at (omega arith), word_more 2 bs at (omega arith), word_more 3 bs at (omega arith))

  pub word_8 : at + 8 ≤ length bs → word 8 bs at ≡ get_or bs at 0 * 72057594037927936 + get_or bs (at + 1) 0 * 281474976710656 + get_or bs (at + 2) 0 * 1099511627776 + get_or bs (at + 3) 0 * 4294967296 + get_or bs (at + 4) 0 * 16777216 + get_or bs (at + 5) 0 * 65536 + get_or bs (at + 6) 0 * 256 + get_or bs (at + 7) 0
  word_8 h = omega (arith, word_4 (omega arith), word_more 4 bs at (omega arith), word_more 5 bs at (omega arith), word_more 6 bs at (omega arith), word_more 7 bs at (omega arith))

pub length_be : (w n : ℕ) → length (be w n) ≡ w
length_be zero n = refl
length_be (suc w) n = length-append (be w (n / 256)) _ ∙ ap (λ k. k + 1) (length_be w (n / 256)) ∙ add-one w

-- a number that fits is read from its bytes again
pub number_be : (w n : ℕ) → n < 256 ^ w → number_from_digits 256 (be w n) ≡ n
number_be zero n h = let z : n < 1 = h in omega arith
number_be (suc w) n h =
    let q : n / 256 < 256 ^ w = div_below n 256 (256 ^ w) (omega arith) (rw pow-suc at h) in
    number_push 256 (be w (n / 256)) (n % 256) ∙ ap (λ m. m * 256 + n % 256) (number_be w (n / 256) q) ∙ div-add-mod' n 256

-- the same of a word that stands behind others
pub word_back : (w : ℕ) (pre rest : List ℕ) (n at : ℕ) → at ≡ length pre → n < 256 ^ w → word w (pre ++ (be w n ++ rest)) at ≡ n
word_back w pre rest n at e h =
    let cut : take w (drop at (pre ++ (be w n ++ rest))) ≡ be w n = ap (take w) (drop_at pre (be w n ++ rest) at (sym e)) ∙ take_at (be w n) rest w (length_be w n) in
    ap (number_from_digits 256) cut ∙ number_be w n h

-- the bytes of a word that was read are those that were read
pub be_word : (w : ℕ) (bs : List ℕ) (at : ℕ) → Octets bs → at + w ≤ length bs → be w (word w bs at) ≡ take w (drop at bs)
be_word zero bs at small h = refl
be_word (suc w) bs at small h =
    let here : at + w < length bs = omega arith in
    let b = get_or bs (at + w) 0 in
    let byte : b < 256 = All-get_or (λ b. b < 256) bs (at + w) 0 here small in
    let more : word (suc w) bs at ≡ word w bs at * 256 + b = ap (λ k. word k bs at) (sym (add-one w)) ∙ word_more w bs at here in
    let high : word (suc w) bs at / 256 ≡ word w bs at = ap (λ n. n / 256) more ∙ div-mul-add (word w bs at) 256 b byte in
    let low : word (suc w) bs at % 256 ≡ b = ap (λ n. n % 256) more ∙ mod-mul-add (word w bs at) 256 b byte in
    ap (λ n. be w n ++ (word (suc w) bs at % 256) ∷ []) high
    ∙ ap (λ l. be w (word w bs at) ++ l ∷ []) (low ∙ sym (get_or-drop at bs w 0))
    ∙ ap (λ l. l ++ get_or (drop at bs) w 0 ∷ []) (be_word w bs at small (omega arith))
    ∙ sym (take_more (drop at bs) w 0 (simp length-drop (omega arith)))
    ∙ ap (λ k. take k (drop at bs)) (add-one w)

-- an unsigned number as `to_be_bytes` gives it
pub be_4 : (n : ℕ) → be 4 n ≡ (n / 16777216 % 256) ∷ (n / 65536 % 256) ∷ (n / 256 % 256) ∷ (n % 256) ∷ []
be_4 n = simp (div-div-eq-div-mul)

pub be_8 : (n : ℕ) → be 8 n ≡ (n / 72057594037927936 % 256) ∷ (n / 281474976710656 % 256) ∷ (n / 1099511627776 % 256) ∷ (n / 4294967296 % 256) ∷ (n / 16777216 % 256) ∷ (n / 65536 % 256) ∷ (n / 256 % 256) ∷ (n % 256) ∷ []
be_8 n = simp (div-div-eq-div-mul)

-- the bytes of a number tell it
pub be_same : (w m n : ℕ) → m < 256 ^ w → n < 256 ^ w → be w m ≡ be w n → m ≡ n
be_same w m n p q e = sym (number_be w m p) ∙ ap (number_from_digits 256) e ∙ number_be w n q
