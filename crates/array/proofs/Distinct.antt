-- Different arrays have different bytes.
use Rattle.std.proofs.Common.{◌≡◌, ℕ, ◌*◌, ◌≤◌, List, [], ◌∷◌, ◌++◌, length, take, drop, ℤ, Some, None, Ok, sym, refl, ap, ◌∙◌, arith, w32, SFits, to_z, of_z}
use mir.Facts.{Fits-of_z}
use Rattle.std.proofs.lemmas.List.{append_cancel_left, take_at, drop_at}
use Rattle.std.proofs.lemmas.Int.{to_z-of_z}
use Rattle.std.specs.List.{AllByRecursion}
use Rattle.wire.specs.Cursor.{read_nullable}
use Rattle.wire.specs.Items.{Within, nullable}
use Rattle.wire.specs.Words.{Value, int}
use Rattle.wire.proofs.Nullables.{nullable_forms, nullable_written}
use Rattle.wire.proofs.Wording.{be_same}
use Rattle.array.specs.declared.dimension.ArrayDimension.{ArrayDimension}
use Rattle.array.specs.Laws.{Words, Distinct}
use Rattle.array.specs.Layout.{dimensions, elements}
use Rattle.array.proofs.Dimensions.{length_dimensions}

-- a signed word tells its number
int_same : (y z : ℤ) → SFits w32 y → SFits w32 z → int y ≡ int z → y ≡ z
int_same y z p q e = sym (to_z-of_z w32 y p) ∙ ap (to_z w32) (be_same 4 (of_z w32 y) (of_z w32 z) (Fits-of_z p).fits (Fits-of_z q).fits e) ∙ to_z-of_z w32 z q

same_dimensions : (cs ds : List ArrayDimension) → AllByRecursion Words cs → AllByRecursion Words ds → dimensions cs ≡ dimensions ds → cs ≡ ds
same_dimensions [] [] p q e = refl
same_dimensions [] (d ∷ ds) p q e = let l = ap length e in absurd (omega arith)
same_dimensions (c ∷ cs) [] p q e = let l = ap length e in absurd (omega arith)
same_dimensions (c ∷ cs) (d ∷ ds) p q e =
    let len = int_same c.len d.len p.0.0 q.0.0 (ap (take 4) e) in
    let low = int_same c.lower_bound d.lower_bound p.0.1 q.0.1 (ap (λ bs. take 4 (drop 4 bs)) e) in
    let rest = same_dimensions cs ds p.1 q.1 (ap (drop 8) e) in
    let made : ℤ → ℤ → ArrayDimension = λ y z. record { len = y; lower_bound = z } in
    let first : c ≡ d = ap (λ z. made z c.lower_bound) len ∙ ap (made d.len) low in
    ap (λ x. x ∷ cs) first ∙ ap (λ xs. d ∷ xs) rest

-- a value that stands first tells itself
same_first : (v w : Value) (rest more : List ℕ) → Within 2147483647 (Ok v) → Within 2147483647 (Ok w) → nullable v ++ rest ≡ nullable w ++ more → v ≡ w
same_first v w rest more p q e =
    let a = nullable_forms.reads [] (nullable v) rest v (nullable_written v p) in
    let b = nullable_forms.reads [] (nullable w) more w (nullable_written w q) in
    let pair : ◌≡◌ {A = Value × ℕ} (v, length (nullable v)) (w, length (nullable w)) = let c = ap (λ bs. read_nullable bs 0) e in cc in
    ap (λ x. x.0) pair

some_bytes : (v : Value) (rest : List ℕ) → 4 ≤ length (nullable v ++ rest)
some_bytes None rest = omega arith
some_bytes (Some bs) rest = omega arith

pub same_elements : (vs ws : List Value) → AllByRecursion (λ v. Within 2147483647 (Ok v)) vs → AllByRecursion (λ v. Within 2147483647 (Ok v)) ws → elements vs ≡ elements ws → vs ≡ ws
same_elements [] [] p q e = refl
same_elements [] (w ∷ ws) p q e = absurd (omega (arith, ap length e, some_bytes w (elements ws)))
same_elements (v ∷ vs) [] p q e = absurd (omega (arith, ap length e, some_bytes v (elements vs)))
same_elements (v ∷ vs) (w ∷ ws) p q e =
    let first = same_first v w (elements vs) (elements ws) p.0 q.0 e in
    let rest = append_cancel_left (nullable w) (elements vs) (elements ws) (ap (λ x. nullable x ++ elements vs) (sym first) ∙ e) in
    ap (λ x. x ∷ vs) first ∙ ap (λ xs. w ∷ xs) (same_elements vs ws p.1 q.1 rest)

pub distinct : (ds : List ArrayDimension) (oid : ℕ) (vs : List Value) → Distinct ds oid vs
distinct ds oid vs a cs type ws b e =
    let count : length cs ≡ length ds = be_same 4 (length cs) (length ds) (omega (arith, b.few)) (omega (arith, a.few)) (ap (take 4) e) in
    let oids = be_same 4 type oid b.typed a.typed (ap (λ bs. take 4 (drop 8 bs)) e) in
    let rest : dimensions cs ++ elements ws ≡ dimensions ds ++ elements vs = ap (drop 12) e in
    let long : length (dimensions cs) ≡ length (dimensions ds) = length_dimensions cs ∙ ap (λ n. 8 * n) count ∙ sym (length_dimensions ds) in
    let n = length (dimensions ds) in
    let dims = sym (take_at (dimensions cs) (elements ws) n long) ∙ ap (take n) rest ∙ take_at (dimensions ds) (elements vs) n refl in
    let elems = sym (drop_at (dimensions cs) (elements ws) n long) ∙ ap (drop n) rest ∙ drop_at (dimensions ds) (elements vs) n refl in
    (same_dimensions cs ds b.words a.words dims, oids, same_elements ws vs b.short a.short elems)
