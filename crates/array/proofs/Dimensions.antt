-- Dimensions, there and back.
use Rattle.std.proofs.Common.{◌≡◌, ℕ, ◌+◌, ◌*◌, ◌^◌, ◌<◌, ◌≤◌, List, [], ◌∷◌, ◌++◌, length, take, drop, ℤ, Ok, sym, refl, ap, ◌∙◌, subst, arith, w32, SFits, to_z, of_z}
use mir.Facts.{Fits-of_z, sfits_to_z}
use Rattle.std.proofs.lemmas.List.{append_assoc, length-append, drop-drop, take-append-drop}
use Rattle.std.proofs.lemmas.Int.{to_z-of_z, of_z-to_z}
use Rattle.std.specs.List.{AllByRecursion}
use Rattle.wire.specs.Bytes.{Octets}
use Rattle.wire.specs.Cursor.{Row, none, one, ReadsForms}
use Rattle.wire.specs.Words.{then, be, word, int, i32_at}
use Rattle.wire.proofs.Nullables.{i32_back}
use Rattle.wire.proofs.Reading.{word_lt}
use Rattle.wire.proofs.Wording.{be_word}
use Rattle.array.specs.declared.dimension.ArrayDimension.{ArrayDimension}
use Rattle.array.specs.Laws.{Words}
use Rattle.array.specs.Layout.{dimension, dimensions}
use Rattle.array.specs.Recv.{read_dimension}
use Rattle.wire.proofs.Taking.{then_ok, i32_ok}

-- a signed number that stands behind others
int_back : (pre rest : List ℕ) (z : ℤ) → SFits w32 z → i32_at (pre ++ (int z ++ rest)) (length pre) ≡ Ok z
int_back pre rest z fits =
    let bits : of_z w32 z < 2 ^ 32 = (Fits-of_z {w = w32} {z = z} fits).fits in
    i32_back pre rest (of_z w32 z) bits ∙ ap Ok (to_z-of_z w32 z fits)

-- a dimension that stands behind others
module _ (pre rest : List ℕ) (d : ArrayDimension) (words : Words d) where
  pub len_back : i32_at (pre ++ (dimension d ++ rest)) (length pre) ≡ Ok d.len
  len_back = int_back pre (int d.lower_bound ++ rest) d.len words.0

  pub lower_back : i32_at (pre ++ (dimension d ++ rest)) (length pre + 4) ≡ Ok d.lower_bound
  lower_back =
      let whole = append_assoc pre (int d.len) (int d.lower_bound ++ rest) in
      let place = length-append pre (int d.len) in
      ap (i32_at (pre ++ (dimension d ++ rest))) (sym place)
      ∙ ap (λ bs. i32_at bs (length (pre ++ int d.len))) (sym whole)
      ∙ int_back (pre ++ int d.len) rest d.lower_bound words.1

-- bytes are the word that they make, and the others
pub word_cut : (w : ℕ) (bs : List ℕ) (at : ℕ) → Octets bs → at + w ≤ length bs → drop at bs ≡ be w (word w bs at) ++ drop (at + w) bs
word_cut w bs at small h =
    sym (take-append-drop w (drop at bs)) ∙ ap (λ l. l ++ drop w (drop at bs)) (sym (be_word w bs at small h)) ∙ ap (λ l. be w (word w bs at) ++ l) (drop-drop w at bs)

-- the dimension that eight bytes make
abbrev pub dimension_at : List ℕ → ℕ → ArrayDimension
dimension_at bs at = record { len = to_z w32 (word 4 bs at); lower_bound = to_z w32 (word 4 bs (at + 4)) }

module _ (bs : List ℕ) (at : ℕ) (small : Octets bs) (h : at + 8 ≤ length bs) where
  pub dimension_words : Words (dimension_at bs at)
  dimension_words =
      let high : word 4 bs at < 2 ^ 32 = word_lt 4 bs at small (omega arith) in
      let low : word 4 bs (at + 4) < 2 ^ 32 = word_lt 4 bs (at + 4) small (omega arith) in
      (sfits_to_z {w = w32} (record { fits = high }), sfits_to_z {w = w32} (record { fits = low }))

  pub dimension_cut : drop at bs ≡ dimension (dimension_at bs at) ++ drop (at + 8) bs
  dimension_cut =
      let len = word 4 bs at in
      let lower = word 4 bs (at + 4) in
      let place : at + 4 + 4 ≡ at + 8 = omega arith in
      word_cut 4 bs at small (omega arith)
      ∙ ap (λ l. be 4 len ++ l) (word_cut 4 bs (at + 4) small (omega arith))
      ∙ ap (λ k. be 4 len ++ (be 4 lower ++ drop k bs)) place
      ∙ ap (λ n. be 4 n ++ (be 4 lower ++ drop (at + 8) bs)) (sym (of_z-to_z w32 len (word_lt 4 bs at small (omega arith))))
      ∙ ap (λ n. int (to_z w32 len) ++ (be 4 n ++ drop (at + 8) bs)) (sym (of_z-to_z w32 lower (word_lt 4 bs (at + 4) small (omega arith))))

-- the bytes of a dimension
abbrev pub Dimension : ArrayDimension → List ℕ → Type 0
Dimension d e = (e ≡ dimension d) × Words d

dimension_back : (pre e rest : List ℕ) (d : ArrayDimension) → Dimension d e → read_dimension (pre ++ (e ++ rest)) (length pre) ≡ Ok (d, length e)
dimension_back pre e rest d (is, words) =
    let bs = pre ++ (dimension d ++ rest) in
    ap (λ f. read_dimension (pre ++ (f ++ rest)) (length pre)) is
    ∙ ap (λ r. then r (λ len. then (i32_at bs (length pre + 4)) (λ lower. Ok (record { len = len; lower_bound = lower }, 8)))) (len_back pre rest d words)
    ∙ ap (λ r. then r (λ lower. Ok (record { len = d.len; lower_bound = lower }, 8))) (lower_back pre rest d words)
    ∙ ap (λ f. Ok (d, length f)) (sym is)

-- the numbers that were read are those of the dimension that the bytes make
dimension_same : (bs : List ℕ) (at : ℕ) (len lower : ℤ) → to_z w32 (word 4 bs at) ≡ len → to_z w32 (word 4 bs (at + 4)) ≡ lower → ◌≡◌ {A = ArrayDimension} (dimension_at bs at) (record { len = len; lower_bound = lower })
dimension_same bs at len lower e f = ap (λ z. record { len = z; lower_bound = to_z w32 (word 4 bs (at + 4)) }) e ∙ ap (λ z. record { len = len; lower_bound = z }) f

dimension_formed : (bs : List ℕ) (at n : ℕ) (d : ArrayDimension) → Octets bs → read_dimension bs at ≡ Ok (d, n) → (at + n ≤ length bs) × Dimension d (take n (drop at bs))
dimension_formed bs at n d small e =
    let a = then_ok (i32_at bs at) (λ len. then (i32_at bs (at + 4)) (λ lower. Ok (record { len = len; lower_bound = lower }, 8))) (d, n) e in
    let b = then_ok (i32_at bs (at + 4)) (λ lower. Ok (record { len = a.0; lower_bound = lower }, 8)) (d, n) a.2 in
    let len = i32_ok bs at a.0 a.1 in
    let lower = i32_ok bs (at + 4) b.0 b.1 in
    let room : at + 8 ≤ length bs = omega arith in
    let pair : ◌≡◌ {A = ArrayDimension × ℕ} (record { len = a.0; lower_bound = b.0 }, 8) (d, n) = cc in
    let same = dimension_same bs at a.0 b.0 len.1 lower.1 ∙ ap (λ q. q.0) pair in
    let form : (at + 8 ≤ length bs) × Dimension (dimension_at bs at) (take 8 (drop at bs)) = (room, (ap (take 8) (dimension_cut bs at small room), dimension_words bs at small room)) in
    let at-d = subst (λ c. (at + 8 ≤ length bs) × Dimension c (take 8 (drop at bs))) same form in
    subst (λ m. (at + m ≤ length bs) × Dimension d (take m (drop at bs))) (ap (λ q. q.1) pair) at-d

pub dimension_forms : ReadsForms read_dimension Dimension
dimension_forms = record { reads = dimension_back; formed = dimension_formed }

pub dimension_row : (ds : List ArrayDimension) → AllByRecursion Words ds → Row Dimension ds (dimensions ds)
dimension_row [] words = none
dimension_row (d ∷ ds) (here, others) = one (refl, here) (dimension_row ds others)

pub length_dimensions : (ds : List ArrayDimension) → length (dimensions ds) ≡ 8 * length ds
length_dimensions [] = refl
length_dimensions (d ∷ ds) = let n = length_dimensions ds in omega arith
