-- An entry is read from its forms, and from nothing else.
use Rattle.std.proofs.Common.{◌≡◌, ℕ, ◌+◌, ◌≤◌, List, [], ◌++◌, length, take, drop, Some, None, Ok, Err, Result, sym, refl, ap, ◌∙◌, subst, arith, take-add}
use Rattle.std.proofs.lemmas.List.{append_assoc, length-append, drop-drop}
use Rattle.fault.specs.declared.Fault.{Fault}
use Rattle.text.specs.Recv.{text_recv}
use Rattle.text.specs.Utf8.{Text}
use Rattle.wire.specs.Bytes.{Octets}
use Rattle.wire.specs.Cursor.{ReadsForms, Nullable, sized}
use Rattle.wire.specs.Items.{nullable}
use Rattle.wire.specs.Words.{Value, be, then, value_at}
use Rattle.wire.proofs.Nullables.{nullable_forms}
use Rattle.wire.proofs.Taking.{then_ok}
use Rattle.hstore.specs.Laws.{TextValue, EntryForm}
use Rattle.hstore.specs.Layout.{Entry, entry_layout}
use Rattle.hstore.specs.Recv.{placed, text_at, key_in, key_at, value_in, entry_value_at, read_entry}
use Rattle.hstore.proofs.Texts.{text_back, text_told}

-- a value behind its length word, without its number of bytes
sized_ok : (r : Result Value Fault) (v : Value) (n : ℕ) → sized (λ u. length (nullable u)) r ≡ Ok (v, n) → (r ≡ Ok v) × (length (nullable v) ≡ n)
sized_ok (Ok u) v n e =
    let pair : ◌≡◌ {A = Value × ℕ} (u, length (nullable u)) (v, n) = cc in
    let same : u ≡ v = ap (λ q. q.0) pair in
    (ap Ok same, ap (λ w. length (nullable w)) (sym same) ∙ ap (λ q. q.1) pair)
sized_ok (Err f) v n e = let z : ◌≡◌ {A = ℕ} 0 1 = cc in absurd (omega arith)

-- a form of a value that stands behind others, and its length
pub value_back : (pre e rest : List ℕ) (v : Value) {all : List ℕ} {at : ℕ} → all ≡ pre ++ (e ++ rest) → length pre ≡ at → Nullable v e → value_at all at ≡ Ok v
value_back pre e rest v {all = all} {at = at} apart place f =
    ap (λ l. value_at l at) apart ∙ ap (value_at (pre ++ (e ++ rest))) (sym place)
    ∙ (sized_ok (value_at (pre ++ (e ++ rest)) (length pre)) v (length e) (nullable_forms.reads pre e rest v f)).0

length_form : (e : List ℕ) (v : Value) → Nullable v e → length (nullable v) ≡ length e
length_form e v f = (sized_ok (value_at (e ++ []) 0) v (length e) (nullable_forms.reads [] e [] v f)).1

-- a value that was read
value_formed : (bs : List ℕ) (at : ℕ) (v : Value) → Octets bs → value_at bs at ≡ Ok v → (at + length (nullable v) ≤ length bs) × Nullable v (take (length (nullable v)) (drop at bs))
value_formed bs at v small e = nullable_forms.formed bs at (length (nullable v)) v small (ap (sized (λ u. length (nullable u))) e)

placed_ok : (start : ℕ) (bs t : List ℕ) (r : Result (List ℕ) Fault) → text_recv bs ≡ r → placed start r ≡ Ok t → (bs ≡ t) × Text bs
placed_ok start bs t (Ok u) is e = text_told bs t (is ∙ e)
placed_ok start bs t (Err f) is e = let z : ◌≡◌ {A = ℕ} 0 1 = cc in absurd (omega arith)

-- a text is read as itself, and only text is read
text_in : (start : ℕ) (bs : List ℕ) → Text bs → text_at start bs ≡ Ok bs
text_in start bs t = ap (placed start) (text_back bs t)

text_ok : (start : ℕ) (bs t : List ℕ) → text_at start bs ≡ Ok t → (bs ≡ t) × Text bs
text_ok start bs t e = placed_ok start bs t (text_recv bs) refl e

key_ok : (at : ℕ) (v : Value) (key : List ℕ) → key_in at v ≡ Ok key → (v ≡ Some key) × Text key
key_ok at None key e = let z : ◌≡◌ {A = ℕ} 0 1 = cc in absurd (omega arith)
key_ok at (Some bs) key e = let t = text_ok (at + 4) bs key e in (ap Some t.0, subst Text t.0 t.1)

value_in_back : (at : ℕ) (v : Value) → TextValue v → value_in at v ≡ Ok v
value_in_back at None t = refl
value_in_back at (Some bs) t = ap (λ r. then r (λ u. Ok (Some u))) (text_in (at + 4) bs t)

value_ok : (at : ℕ) (v w : Value) → value_in at v ≡ Ok w → (v ≡ w) × TextValue v
value_ok at None w e = (cc, tt)
value_ok at (Some bs) w e =
    let a = then_ok (text_at (at + 4) bs) (λ u. Ok (Some u)) w e in
    let t = text_ok (at + 4) bs a.0 a.1 in
    let same : ◌≡◌ {A = Value} (Some bs) w = let x = a.2 in let y = t.0 in cc in
    (same, t.1)

-- an entry by its key and its value
pub entry_by : (bs : List ℕ) (at : ℕ) (x : Entry) → key_at bs at ≡ Ok x.0 → entry_value_at bs (at + 4 + length x.0) ≡ Ok x.1 → read_entry bs at ≡ Ok (x, length (entry_layout x))
entry_by bs at x key value =
    ap (λ r. then r (λ k. then (entry_value_at bs (at + 4 + length k)) (λ v. Ok ((k, v), length (entry_layout (k, v)))))) key
    ∙ ap (λ r. then r (λ v. Ok ((x.0, v), length (entry_layout (x.0, v))))) value

pub record Parts (bs : List ℕ) (at n : ℕ) (x : Entry) : Type 0 where
  pub key : key_at bs at ≡ Ok x.0
  pub value : entry_value_at bs (at + 4 + length x.0) ≡ Ok x.1
  pub size : length (entry_layout x) ≡ n

pub entry_ok : (bs : List ℕ) (at n : ℕ) (x : Entry) → read_entry bs at ≡ Ok (x, n) → Parts bs at n x
entry_ok bs at n x e =
    let a = then_ok (key_at bs at) (λ k. then (entry_value_at bs (at + 4 + length k)) (λ v. Ok ((k, v), length (entry_layout (k, v))))) (x, n) e in
    let b = then_ok (entry_value_at bs (at + 4 + length a.0)) (λ v. Ok ((a.0, v), length (entry_layout (a.0, v)))) (x, n) a.2 in
    let pair : ◌≡◌ {A = Entry × ℕ} ((a.0, b.0), length (entry_layout (a.0, b.0))) (x, n) = let q = b.2 in cc in
    subst (λ q. Parts bs at q.1 q.0) pair (record { key = a.1; value = b.1; size = refl })

entry_reads : (pre e rest : List ℕ) (x : Entry) → EntryForm x e → read_entry (pre ++ (e ++ rest)) (length pre) ≡ Ok (x, length e)
entry_reads pre e rest x f =
    let key = x.0 in
    let first = be 4 (length key) ++ key in
    let tail = f.last ++ rest in
    let next = length pre + 4 + length key in
    let apart : pre ++ (e ++ rest) ≡ pre ++ (first ++ tail) = ap (λ l. pre ++ (l ++ rest)) f.whole ∙ ap (λ l. pre ++ l) (append_assoc first f.last rest) in
    let behind = apart ∙ sym (append_assoc pre first tail) in
    let place : length (pre ++ first) ≡ next = length-append pre first ∙ omega arith in
    let at_key = ap (λ r. then r (key_in (length pre))) (value_back pre first tail (Some key) apart refl (f.short, refl)) ∙ text_in (length pre + 4) key f.key_text in
    let at_value = ap (λ r. then r (value_in next)) (value_back (pre ++ first) f.last rest x.1 behind place f.value_form) ∙ value_in_back next x.1 f.value_text in
    let size : length (entry_layout x) ≡ length e =
    omega (arith, length-append first (nullable x.1), length_form f.last x.1 f.value_form, length-append first f.last, ap length f.whole) in
    entry_by (pre ++ (e ++ rest)) (length pre) x at_key at_value ∙ ap (λ n. Ok (x, n)) size

entry_formed : (bs : List ℕ) (at n : ℕ) (x : Entry) → Octets bs → read_entry bs at ≡ Ok (x, n) → (at + n ≤ length bs) × EntryForm x (take n (drop at bs))
entry_formed bs at n x small e =
    let p = entry_ok bs at n x e in
    let key = x.0 in
    let value = x.1 in
    let next = at + 4 + length key in
    let k = then_ok (value_at bs at) (key_in at) key p.key in
    let v = then_ok (value_at bs next) (value_in next) value p.value in
    let key_is = key_ok at k.0 key k.2 in
    let value_is = value_ok next v.0 value v.2 in
    let first = value_formed bs at (Some key) small (k.1 ∙ ap Ok key_is.0) in
    let second = value_formed bs next value small (v.1 ∙ ap Ok value_is.0) in
    let m = length (nullable (Some key)) in
    let long : m + length (nullable value) ≡ n = sym (length-append (nullable (Some key)) (nullable value)) ∙ p.size in
    let last = take (length (nullable value)) (drop next bs) in
    let place : at + m ≡ next = omega arith in (
      omega arith,
      record {
        short = first.1.0;
        key_text = key_is.1;
        value_text = subst TextValue value_is.0 value_is.1;
        last = last;
        value_form = second.1;
        whole = ap (λ i. take i (drop at bs)) (sym long) ∙ take-add m (length (nullable value)) (drop at bs)
            ∙ ap (λ l. take m (drop at bs) ++ take (length (nullable value)) l) (drop-drop m at bs ∙ ap (λ i. drop i bs) place)
            ∙ ap (λ l. l ++ last) first.1.1;
      },
    )

pub entry_forms : ReadsForms read_entry EntryForm
entry_forms = record { reads = entry_reads; formed = entry_formed }
