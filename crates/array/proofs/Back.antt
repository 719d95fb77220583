-- The bytes of a sound array are opened and read to the end as it.
use Rattle.std.proofs.Common.{◌≡◌, ℕ, suc, ◌+◌, ◌*◌, ◌^◌, ◌<◌, Bool, true, false, cond, not, eqb, ltb, List, [], ◌∷◌, ◌++◌, length, take, ℤ, pos, negsuc, Some, None, Ok, sym, refl, ap, ◌∙◌, subst, arith, w32}
use Rattle.std.proofs.lemmas.List.{append_assoc, length-append, take_at}
use Rattle.std.proofs.lemmas.Int.{to_z_pos}
use Rattle.std.proofs.lemmas.Bool.{cond-true, cond-false, lt-ltb, ltb-true, ne_eqb}
use Rattle.std.specs.List.{AllByRecursion}
use Rattle.wire.specs.Cursor.{Reads, Row, Nullable, read_nullable, before}
use Rattle.wire.specs.Words.{Value, then, be, i32_at, u32_at, natural, count_at}
use Rattle.wire.proofs.Cursors.{reads_row}
use Rattle.wire.proofs.Nullables.{i32_back, nullable_forms}
use Rattle.wire.proofs.Reading.{uint_fits}
use Rattle.wire.proofs.Wording.{word_back}
use Rattle.array.specs.declared.dimension.ArrayDimension.{ArrayDimension}
use Rattle.array.specs.Laws.{times, product, element_count, Words, Sound, Opens, ReadsBack}
use Rattle.array.specs.Layout.{dimension, dimensions, array_bytes}
use Rattle.array.specs.Recv.{array_recv, opened_with, product_at, product_from, read_dimension}
use Rattle.array.proofs.Dimensions.{len_back, lower_back, Dimension, dimension_forms, dimension_row, length_dimensions}
use Rattle.array.proofs.Factors.{factor, product_more}

-- a product that there is was made of a length that is not negative
record Times (p : ℕ) (z : ℤ) (ds : List ArrayDimension) (q : ℕ) : Type 0 where
  len : ℕ
  is : z ≡ pos len
  below : p * len < 2 ^ 31
  others : product (Some (p * len)) ds ≡ Some q

times_under : (p n : ℕ) (ds : List ArrayDimension) (q : ℕ) (b : Bool) → ltb (p * n) (2 ^ 31) ≡ b → product (cond b (Some (p * n)) None) ds ≡ Some q → Times p (pos n) ds q
times_under p n ds q true t e = record { len = n; is = refl; below = ltb-true (p * n) (2 ^ 31) t; others = e }
times_under p n ds q false t e = let z : ◌≡◌ {A = ℕ} 0 1 = cc in absurd (omega arith)

times_some : (p : ℕ) (z : ℤ) (ds : List ArrayDimension) (q : ℕ) → product (times p z) ds ≡ Some q → Times p z ds q
times_some p (pos n) ds q e = times_under p n ds q (ltb (p * n) (2 ^ 31)) refl e
times_some p (negsuc n) ds q e = let z : ◌≡◌ {A = ℕ} 0 1 = cc in absurd (omega arith)

-- a dimension whose words are there
factor_back : (bs : List ℕ) (at p n : ℕ) (lower : ℤ) → i32_at bs at ≡ Ok (pos n) → i32_at bs (at + 4) ≡ Ok lower → p * n < 2 ^ 31 → Ok (p * n) ≡ factor bs at p
factor_back bs at p n lower first second below =
    sym (
    ap (λ r. then (then r (natural at)) (λ len. then (i32_at bs (at + 4)) (λ _. product_at at (p * len)))) first
    ∙ ap (λ r. then r (λ _. product_at at (p * n))) second
    ∙ cond-true _ _ _ (lt-ltb (p * n) (2 ^ 31) below)
    )

-- the product of dimensions that stand behind others
product_back : (ds : List ArrayDimension) (pre rest : List ℕ) (p q : ℕ) → AllByRecursion Words ds → product (Some p) ds ≡ Some q → product_from (length ds) (pre ++ (dimensions ds ++ rest)) (length pre) p ≡ Ok q
product_back [] pre rest p q words e = cc
product_back (d ∷ ds) pre rest p q (here, others) e =
    let t = times_some p d.len ds q e in
    let tail = dimensions ds ++ rest in
    let bs = pre ++ (dimension d ++ tail) in
    let first = len_back pre tail d here ∙ ap Ok t.is in
    let made = factor_back bs (length pre) p t.len d.lower_bound first (lower_back pre tail d here) t.below in
    product_more (suc (length ds)) (length ds) bs (length pre) p {r = Ok (p * t.len)} refl made
    ∙ ap (λ at. product_from (length ds) bs at (p * t.len)) (sym (length-append pre (dimension d)))
    ∙ ap (λ l. product_from (length ds) l (length (pre ++ dimension d)) (p * t.len)) (sym (append_assoc pre (dimension d) tail))
    ∙ product_back ds (pre ++ dimension d) rest (p * t.len) q others t.others

-- the product, and how many elements it says there are
product_some : (ds : List ArrayDimension) (n : ℕ) → element_count ds ≡ Some n → (p : ℕ) × (product (Some 1) ds ≡ Some p) × (cond (eqb (length ds) 0) 0 p ≡ n)
product_some [] n e = (1, refl, cc)
product_some (d ∷ ds) n e = (n, e, cond-false _ _ _ (ne_eqb (suc (length ds)) 0 (λ z. omega arith)))

-- an unsigned word that stands behind others
u32_back : (pre rest : List ℕ) (n : ℕ) → n < 2 ^ 32 → u32_at (pre ++ (be 4 n ++ rest)) (length pre) ≡ Ok n
u32_back pre rest n h =
    let long = length-append pre (be 4 n ++ rest) in
    uint_fits 4 (pre ++ (be 4 n ++ rest)) (length pre) (omega arith) ∙ ap Ok (word_back 4 pre rest n (length pre) refl h)

-- the three words of the head
abbrev head : ℕ → ℕ → ℕ → List ℕ
head n flag oid = be 4 n ++ (be 4 flag ++ be 4 oid)

module _ (flag : ℕ) (ds : List ArrayDimension) (oid : ℕ) (vs : List Value) (last : List ℕ) (word : flag < 2 ^ 32) (sound : Sound ds oid vs) where
  recv_back : (p : ℕ) → product (Some 1) ds ≡ Some p → array_recv (array_bytes flag ds oid last) ≡ Ok (opened_with (array_bytes flag ds oid last) (length ds) flag oid p)
  recv_back p made =
      let n = length ds in
      let bs = array_bytes flag ds oid last in
      let rest = dimensions ds ++ last in
      let few = sound.few in
      let count : count_at bs 0 ≡ Ok n = ap (λ r. then r (natural 0)) (i32_back [] (be 4 flag ++ (be 4 oid ++ rest)) n (omega arith) ∙ ap Ok (to_z_pos w32 n few)) in
      let flags : u32_at bs 4 ≡ Ok flag = u32_back (be 4 n) (be 4 oid ++ rest) flag word in
      let type : u32_at bs 8 ≡ Ok oid = u32_back (be 4 n ++ be 4 flag) rest oid sound.typed in
      ap (λ r. then r (λ n. then (u32_at bs 4) (λ flag. then (u32_at bs 8) (λ oid. then (product_from n bs 12 1) (λ p. Ok (opened_with bs n flag oid p)))))) count
      ∙ ap (λ r. then r (λ flag. then (u32_at bs 8) (λ oid. then (product_from n bs 12 1) (λ p. Ok (opened_with bs n flag oid p))))) flags
      ∙ ap (λ r. then r (λ oid. then (product_from n bs 12 1) (λ p. Ok (opened_with bs n flag oid p)))) type
      ∙ ap (λ r. then r (λ p. Ok (opened_with bs n flag oid p))) (product_back ds (head n flag oid) last 1 p sound.words made)

  -- where the elements begin
  start_back : length (head (length ds) flag oid ++ dimensions ds) ≡ 12 + 8 * length ds
  start_back = length-append (head (length ds) flag oid) (dimensions ds) ∙ ap (λ n. 12 + n) (length_dimensions ds)

  dimensions_back : Reads read_dimension (before (take (12 + 8 * length ds) (array_bytes flag ds oid last)) 12 (length ds)) ds
  dimensions_back =
      let front = head (length ds) flag oid in
      let apart : front ++ dimensions ds ++ last ≡ array_bytes flag ds oid last = append_assoc front (dimensions ds) last in
      let cut : front ++ dimensions ds ≡ take (12 + 8 * length ds) (array_bytes flag ds oid last) =
      sym (take_at (front ++ dimensions ds) last (12 + 8 * length ds) start_back) ∙ ap (take (12 + 8 * length ds)) apart in
      subst (λ bs. Reads read_dimension (before bs 12 (length ds)) ds) cut (reads_row read_dimension Dimension dimension_forms front (dimension_row ds sound.words))

  items_back : (n : ℕ) → n ≡ length vs → Row Nullable vs last → Reads read_nullable (before (array_bytes flag ds oid last) (12 + 8 * length ds) n) vs
  items_back n counted row =
      let front = head (length ds) flag oid ++ dimensions ds in
      let apart : front ++ last ≡ array_bytes flag ds oid last = append_assoc (head (length ds) flag oid) (dimensions ds) last in
      let all = reads_row read_nullable Nullable nullable_forms front row in
      subst (λ m. Reads read_nullable (before (array_bytes flag ds oid last) (12 + 8 * length ds) m) vs) (sym counted)
      (subst (λ at. Reads read_nullable (before (array_bytes flag ds oid last) at (length vs)) vs) start_back
      (subst (λ bs. Reads read_nullable (before bs (length front) (length vs)) vs) apart all))

  opens_back : Row Nullable vs last → Opens (array_bytes flag ds oid last) (not (eqb flag 0)) ds oid vs
  opens_back row =
      let p = product_some ds (length vs) sound.fits in
      record {
        opened = opened_with (array_bytes flag ds oid last) (length ds) flag oid p.0;
        opens = recv_back p.0 p.1;
        flag = refl;
        type = refl;
        dimensions = dimensions_back;
        items = items_back (cond (eqb (length ds) 0) 0 p.0) p.2 row;
      }

pub reads_back : (bs : List ℕ) → ReadsBack bs
reads_back bs flag ds oid vs sound form =
    subst (λ l. Opens l (not (eqb flag 0)) ds oid vs) (sym form.whole) (opens_back flag ds oid vs form.last form.word sound form.row)
