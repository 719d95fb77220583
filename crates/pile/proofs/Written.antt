-- What the rows of a layer write, and how it is read.
use Rattle.std.proofs.Common.{◌≡◌, ℕ, zero, suc, ◌+◌, ◌*◌, ◌^◌, ◌<◌, ◌≤◌, Bool, true, false, cond, ltb, List, [], ◌∷◌, length, get_or, pos, Some, None, Ok, Err, Option, Result, sym, refl, ap, ◌∙◌, subst, arith}
use Rattle.std.proofs.lemmas.Bool.{cond-true, cond-false, lt-ltb, ne_eqb}
use Rattle.std.specs.List.{AllByRecursion}
use Rattle.fault.specs.declared.Fault.{Fault}
use Rattle.fault.specs.declared.Rule.TheVariants.{TooGreat}
use Rattle.fault.specs.Faults.{fault}
use Rattle.wire.specs.Encoding.{Encoding}
use Rattle.wire.specs.Items.{Item}
use Rattle.wire.specs.Words.{Value}
use Rattle.serializer.specs.Lists.{Short, item_at, values, first_fault, refused_or}
use Rattle.array.specs.Laws.{Words, Sound, Opens, product, element_count}
use Rattle.array.specs.Layout.{array_layout, has_null}
use Rattle.array.proofs.Written.{all_short, written_back}
use Rattle.rows.specs.declared.row.ArrayRow.{ArrayRow}
use Rattle.rows.specs.Rows.{sealed, row_dimensions, array_row, row_items}
use Rattle.rows.specs.Tables.{row_from}
use Rattle.rows.specs.Windows.{above, window, window_short}

-- a row that is a payload: its encoding
sealed_by : (k : ℕ) (ws : List ℕ) (v : Value) (b : Bool) → cond b (Ok (Some ws)) (Err (fault TooGreat k)) ≡ Ok v → v ≡ Some ws
sealed_by k ws v true e = cc
sealed_by k ws v false e = let z : ◌≡◌ {A = ℕ} 0 1 = cc in absurd (omega arith)

sealed_ok : (k : ℕ) (e : Encoding) (v : Value) → sealed k e ≡ Ok v → (ws : List ℕ) × (e ≡ Ok ws) × (v ≡ Some ws)
sealed_ok k (Ok ws) v e = (ws, refl, sealed_by k ws v (ltb (length ws) (2 ^ 31)) e)
sealed_ok k (Err f) v e = let z : ◌≡◌ {A = ℕ} 0 1 = cc in absurd (omega arith)

-- item k of a layer comes from its row k
pub record From {R : Type 0} (encode : R → Encoding) (rs : List R) (m k : ℕ) (v : Value) : Type 0 where
  pub row : R
  pub stands : row_from m k rs ≡ Ok row
  pub bytes : List ℕ
  pub encoded : encode row ≡ Ok bytes
  pub is : v ≡ Some bytes

pub row_of : {R : Type 0} (encode : R → Encoding) (n : ℕ) (rs : List R) (m k : ℕ) (f : Fault) (v : Value) → get_or (row_items encode n rs) k (Err f) ≡ Ok v → From encode rs m k v
row_of encode n [] m k f v e = let z : ◌≡◌ {A = ℕ} 0 1 = cc in absurd (omega arith)
row_of encode n (r ∷ rs) m zero f v e =
    let s = sealed_ok n (encode r) v e in
    record { row = r; stands = refl; bytes = s.0; encoded = s.1; is = s.2 }
row_of encode n (r ∷ rs) m (suc k) f v e =
    let t = row_of encode (n + 1) rs m k f v e in
    record { row = t.row; stands = t.stands; bytes = t.bytes; encoded = t.encoded; is = t.is }

-- the rows that stand have the property that all have
pub row_has : {R : Type 0} (P : R → Type 0) (rs : List R) (m k : ℕ) (r : R) → AllByRecursion P rs → row_from m k rs ≡ Ok r → P r
row_has P [] m k r all e = let z : ◌≡◌ {A = ℕ} 0 1 = cc in absurd (omega arith)
row_has P (x ∷ rs) m zero r all e = let same : x ≡ r = cc in subst P same all.0
row_has P (x ∷ rs) m (suc k) r all e = row_has P rs m k r all.1 e

-- the values of a window without faults are those of the items below, in order
pub record Seen (is : List Item) (first n : ℕ) : Type 0 where
  pub counted : length (values (window is first n)) ≡ n
  pub each : (i : ℕ) → i < n → item_at is (first + i) ≡ Ok (get_or (values (window is first n)) i None)

seen_more : (is : List Item) (first n : ℕ) (x : Item) → item_at is first ≡ x → (first_fault (window is (first + 1) n) ≡ None → Seen is (first + 1) n) → first_fault (above x ∷ window is (first + 1) n) ≡ None → Seen is first (suc n)
seen_more is first n (Err f) e more none = let z : ◌≡◌ {A = ℕ} 0 1 = cc in absurd (omega arith)
seen_more is first n (Ok v) e more none =
    let s = more none in
    let here : values (window is first (suc n)) ≡ v ∷ values (window is (first + 1) n) = ap (λ i. values (above i ∷ window is (first + 1) n)) e in
    record { counted = ap length here ∙ ap suc s.counted; each = one here s }
  where
    one : values (window is first (suc n)) ≡ v ∷ values (window is (first + 1) n) → Seen is (first + 1) n → (i : ℕ) → i < suc n → item_at is (first + i) ≡ Ok (get_or (values (window is first (suc n))) i None)
    one here s zero h = ap (item_at is) (omega arith) ∙ e ∙ sym (ap (λ l. Ok (get_or l 0 None)) here)
    one here s (suc i) h = ap (item_at is) (omega arith) ∙ s.each i (omega arith) ∙ sym (ap (λ l. Ok (get_or l (suc i) None)) here)

pub seen : (is : List Item) (first n : ℕ) → first_fault (window is first n) ≡ None → Seen is first n
seen is first zero none = record { counted = refl; each = λ i h. absurd (omega arith) }
seen is first (suc n) none = seen_more is first n (item_at is first) refl (seen is (first + 1) n) none

-- the dimensions of a row
one_dimension : (n : ℕ) → row_dimensions (suc n) ≡ record { len = pos (suc n); lower_bound = pos 1 } ∷ []
one_dimension n = cond-false _ _ _ (ne_eqb (suc n) 0 (λ z. omega arith))

dimension_words : (n : ℕ) → n < 2 ^ 16 → AllByRecursion Words (row_dimensions n)
dimension_words zero h = tt
dimension_words (suc n) h = subst (AllByRecursion Words) (sym (one_dimension n)) ((record { sfits = omega arith }, record { sfits = omega arith }), tt)

dimension_few : (n : ℕ) → length (row_dimensions n) ≤ 1
dimension_few zero = omega arith
dimension_few (suc n) = subst (λ ds. length ds ≤ 1) (sym (one_dimension n)) (omega arith)

dimension_count : (n : ℕ) → n < 2 ^ 16 → element_count (row_dimensions n) ≡ Some n
dimension_count zero h = refl
dimension_count (suc n) h =
    let one : 1 * suc n ≡ suc n = omega arith in
    ap element_count (one_dimension n) ∙ ap (λ o. product o []) (cond-true _ _ _ (lt-ltb (1 * suc n) (2 ^ 31) (omega arith)) ∙ ap Some one)

not_refused : {X : Type 0} (o : Option Fault) (r : Result X Fault) (x : X) → refused_or o r ≡ Ok x → (o ≡ None) × (r ≡ Ok x)
not_refused None r x e = (refl, e)
not_refused (Some f) r x e = let z : ◌≡◌ {A = ℕ} 0 1 = cc in absurd (omega arith)

-- an array row that was written: opened and read to the end, it gives the values of its items
pub record ArrayRead (oid : ℕ) (is : List Item) (r : ArrayRow) (ws : List ℕ) : Type 0 where
  pub found : Seen is r.first r.count
  pub opens : Opens ws (has_null (values (window is r.first r.count))) (row_dimensions r.count) oid (values (window is r.first r.count))

pub array_read : (oid : ℕ) (is : List Item) (r : ArrayRow) (ws : List ℕ) → ((k : ℕ) → Short (item_at is k)) → oid < 2 ^ 32 → r.count < 2 ^ 16 → array_row oid is r ≡ Ok ws → ArrayRead oid is r ws
array_read oid is r ws short typed few e =
    let w = window is r.first r.count in
    let ds = row_dimensions r.count in
    let n = not_refused (first_fault w) _ ws e in
    let some = dimension_few r.count in
    let layout : Ok (array_layout ds oid (values w)) ≡ Ok ws = sym (cond-true _ _ _ (lt-ltb (length ds) (2 ^ 31) (omega arith))) ∙ n.1 in
    let same : array_layout ds oid (values w) ≡ ws = cc in
    let s = seen is r.first r.count n.0 in
    let sound : Sound ds oid (values w) = record { words = dimension_words r.count few; few = omega arith; typed = typed; fits = dimension_count r.count few ∙ ap Some (sym s.counted) } in
    let back = written_back ds oid (values w) (all_short w (window_short is short r.first r.count)) sound in
    record { found = s; opens = subst (λ l. Opens l (has_null (values w)) ds oid (values w)) same back }
