-- Bytes that are opened and read to the end are those of a sound array.
use Rattle.std.proofs.Common.{◌≡◌, ℕ, zero, suc, ◌+◌, ◌*◌, ◌^◌, ◌<◌, ◌≤◌, cond, not, eqb, List, [], ◌∷◌, ◌++◌, length, drop, pos, Some, Ok, sym, refl, ap, ◌∙◌, subst, arith, w32, to_z}
use Rattle.std.proofs.lemmas.Int.{to_z_pos}
use Rattle.std.proofs.lemmas.Bool.{cond-true, cond-false, lt-ltb, ne_eqb}
use Rattle.std.specs.List.{AllByRecursion}
use Rattle.wire.specs.Bytes.{Octets}
use Rattle.wire.specs.Cursor.{Reads, Nullable, read_nullable}
use Rattle.wire.specs.Words.{Value, then, be, word, u32_at, count_at}
use Rattle.wire.proofs.Cursors.{row_read}
use Rattle.wire.proofs.Nullables.{nullable_forms}
use Rattle.wire.proofs.Reading.{word_lt}
use Rattle.array.specs.declared.dimension.ArrayDimension.{ArrayDimension}
use Rattle.array.specs.Laws.{times, product, element_count, Words, Sound, Form, OnlyForms}
use Rattle.array.specs.Layout.{dimension, dimensions, array_bytes}
use Rattle.array.specs.Recv.{Opened, opened_with, product_from, at_values}
use Rattle.array.proofs.Dimensions.{word_cut, dimension_at, dimension_words, dimension_cut}
use Rattle.wire.proofs.Taking.{then_ok, uint_ok, count_ok}
use Rattle.array.proofs.Factors.{factor, Factor, factor_ok, product_more}

-- what a product that was read tells: the dimensions that it is made of
record Made (n : ℕ) (bs : List ℕ) (at p q : ℕ) : Type 0 where
  ds : List ArrayDimension
  count : length ds ≡ n
  room : at + 8 * n ≤ length bs
  cut : drop at bs ≡ dimensions ds ++ drop (at + 8 * n) bs
  words : AllByRecursion Words ds
  made : product (Some p) ds ≡ Some q

-- one dimension more, in front
made_more : (n : ℕ) (bs : List ℕ) (at p q r : ℕ) → Octets bs → Factor bs at p q → Made n bs (at + 8) q r → Made (suc n) bs at p r
made_more n bs at p q r small f m =
    let d = dimension_at bs at in
    let place : at + 8 + 8 * n ≡ at + 8 * suc n = omega arith in
    let len : d.len ≡ pos f.len = ap (to_z w32) f.counted ∙ to_z_pos w32 f.len f.short in
    let low : p * f.len < 2 ^ 31 = omega arith in
    let on : times p d.len ≡ Some q = ap (times p) len ∙ cond-true _ _ _ (lt-ltb (p * f.len) (2 ^ 31) low) ∙ ap Some f.made in
    record {
      ds = d ∷ m.ds;
      count = ap suc m.count;
      room = omega arith;
      cut = dimension_cut bs at small f.room ∙ ap (λ l. dimension d ++ l) m.cut ∙ ap (λ k. dimension d ++ (dimensions m.ds ++ drop k bs)) place;
      words = (dimension_words bs at small f.room, m.words);
      made = ap (λ o. product o m.ds) on ∙ m.made;
    }

product_made : (n : ℕ) (bs : List ℕ) (at p q : ℕ) → Octets bs → at ≤ length bs → product_from n bs at p ≡ Ok q → Made n bs at p q
product_made zero bs at p q small h e =
    let none : at ≡ at + 8 * 0 = omega arith in
    record { ds = []; count = refl; room = omega arith; cut = ap (λ k. drop k bs) none; words = tt; made = cc }
product_made (suc n) bs at p q small h e =
    let t = then_ok (factor bs at p) (product_from n bs (at + 8)) q (sym (product_more (suc n) n bs at p {r = factor bs at p} refl refl) ∙ e) in
    let f = factor_ok bs at p t.0 (sym t.1) in
    made_more n bs at p t.0 q small f (product_made n bs (at + 8) t.0 q small f.room t.2)

-- how many elements the product says there are
product_count : (ds : List ArrayDimension) (p : ℕ) → product (Some 1) ds ≡ Some p → element_count ds ≡ Some (cond (eqb (length ds) 0) 0 p)
product_count [] p e = refl
product_count (d ∷ ds) p e = e ∙ ap Some (sym (cond-false _ _ _ (ne_eqb (suc (length ds)) 0 (λ z. omega arith))))

-- what only-forms says of an opened array
abbrev Formed : List ℕ → List Value → Opened → Type 0
Formed bs vs o = (flag : ℕ) × ((ds : List ArrayDimension) × (Form flag ds o.oid vs bs × Sound ds o.oid vs × (o.nulls ≡ not (eqb flag 0))))

opened_forms : (bs : List ℕ) (n flag oid p : ℕ) (vs : List Value) (opened : Opened) → Octets bs → count_at bs 0 ≡ Ok n → u32_at bs 4 ≡ Ok flag → u32_at bs 8 ≡ Ok oid → product_from n bs 12 1 ≡ Ok p
    → opened_with bs n flag oid p ≡ opened → Reads read_nullable (at_values opened) vs → Formed bs vs opened
opened_forms bs n flag oid p vs opened small count flags type tested is reads =
    let c = count_ok bs 0 n count in
    let f = uint_ok 4 bs 4 flag flags in
    let o = uint_ok 4 bs 8 oid type in
    let room : 12 ≤ length bs = o.0 in
    let m = product_made n bs 12 1 p small room tested in
    let row = row_read read_nullable Nullable nullable_forms bs small (12 + 8 * n) (cond (eqb n 0) 0 p) m.room (subst (λ o. Reads read_nullable (at_values o) vs) (sym is) reads) in
    let last = drop (12 + 8 * n) bs in
    let low : word 4 bs 4 < 2 ^ 32 = word_lt 4 bs 4 small f.0 in
    let high : word 4 bs 8 < 2 ^ 32 = word_lt 4 bs 8 small o.0 in
    let whole : bs ≡ array_bytes flag m.ds oid last =
    word_cut 4 bs 0 small c.0
    ∙ ap (λ k. be 4 k ++ drop 4 bs) (c.1 ∙ sym m.count)
    ∙ ap (λ l. be 4 (length m.ds) ++ l) (word_cut 4 bs 4 small f.0 ∙ ap (λ k. be 4 k ++ drop 8 bs) f.1)
    ∙ ap (λ l. be 4 (length m.ds) ++ (be 4 flag ++ l)) (word_cut 4 bs 8 small o.0 ∙ ap (λ k. be 4 k ++ drop 12 bs) o.1)
    ∙ ap (λ l. be 4 (length m.ds) ++ (be 4 flag ++ (be 4 oid ++ l))) m.cut in
    let fits = product_count m.ds p m.made ∙ ap (λ k. Some (cond (eqb k 0) 0 p)) m.count ∙ ap Some (sym row.0) in
    let form : Form flag m.ds oid vs bs = record { word = omega arith; last = last; whole = whole; row = row.1 } in
    let sound : Sound m.ds oid vs = record { words = m.words; few = omega arith; typed = omega arith; fits = fits } in
    subst (Formed bs vs) is (flag, (m.ds, (form, sound, refl)))

pub only_forms : (bs : List ℕ) → Octets bs → OnlyForms bs
only_forms bs small o vs e reads =
    let n = then_ok (count_at bs 0) (λ n. then (u32_at bs 4) (λ flag. then (u32_at bs 8) (λ oid. then (product_from n bs 12 1) (λ p. Ok (opened_with bs n flag oid p))))) o e in
    let f = then_ok (u32_at bs 4) (λ flag. then (u32_at bs 8) (λ oid. then (product_from n.0 bs 12 1) (λ p. Ok (opened_with bs n.0 flag oid p)))) o n.2 in
    let t = then_ok (u32_at bs 8) (λ oid. then (product_from n.0 bs 12 1) (λ p. Ok (opened_with bs n.0 f.0 oid p))) o f.2 in
    let p = then_ok (product_from n.0 bs 12 1) (λ p. Ok (opened_with bs n.0 f.0 t.0 p)) o t.2 in
    opened_forms bs n.0 f.0 t.0 p.0 vs o small n.1 f.1 t.1 p.1 (cc) reads
