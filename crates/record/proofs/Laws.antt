-- Records, there and back.
use Rattle.std.proofs.Common.{◌≡◌, ℕ, ◌+◌, ◌^◌, ◌<◌, ◌≤◌, List, [], ◌∷◌, ◌++◌, length, take, drop, Ok, Err, Result, sym, refl, ap, ◌∙◌, subst, arith, take-add, w32}
use Rattle.std.proofs.lemmas.List.{append_assoc, length-append, take-append-drop, drop-drop}
use Rattle.std.proofs.lemmas.Int.{to_z_pos}
use Rattle.std.specs.List.{AllByRecursion}
use Rattle.fault.specs.declared.Fault.{Fault}
use Rattle.wire.specs.Bytes.{Octets}
use Rattle.wire.specs.Cursor.{ReadsForms, Row, none, one, Reads, before, sized}
use Rattle.wire.specs.Items.{Within, nullable}
use Rattle.wire.specs.Words.{Value, be, then, natural, u32_at, value_at, count_at}
use Rattle.wire.proofs.Cursors.{reads_row, row_read}
use Rattle.wire.proofs.Nullables.{i32_back, nullable_forms, nullable_written}
use Rattle.wire.proofs.Reading.{uint_fits, word_lt}
use Rattle.wire.proofs.Taking.{then_ok, uint_ok, count_ok}
use Rattle.wire.proofs.Wording.{word_back, be_word}
use Rattle.record.specs.Laws.{ColumnForm, Opens, ReadsBack, OnlyForms}
use Rattle.record.specs.Layout.{Column, column_layout, columns_layout, record_layout}
use Rattle.record.specs.Recv.{read_column}

-- a value behind its length word, without its number of bytes
sized_ok : (r : Result Value Fault) (v : Value) (n : ℕ) → sized (λ u. length (nullable u)) r ≡ Ok (v, n) → (r ≡ Ok v) × (length (nullable v) ≡ n)
sized_ok (Ok u) v n e =
    let pair : ◌≡◌ {A = Value × ℕ} (u, length (nullable u)) (v, n) = cc in
    let same : u ≡ v = ap (λ q. q.0) pair in
    (ap Ok same, ap (λ w. length (nullable w)) (sym same) ∙ ap (λ q. q.1) pair)
sized_ok (Err f) v n e = let z : ◌≡◌ {A = ℕ} 0 1 = cc in absurd (omega arith)

-- an OID that stands behind others
oid_back : (pre rest : List ℕ) (n : ℕ) → n < 2 ^ 32 → u32_at (pre ++ (be 4 n ++ rest)) (length pre) ≡ Ok n
oid_back pre rest n h =
    let long = length-append pre (be 4 n ++ rest) in
    uint_fits 4 (pre ++ (be 4 n ++ rest)) (length pre) (omega arith) ∙ ap Ok (word_back 4 pre rest n (length pre) refl h)

-- a column by its OID and its value
column_by : (bs : List ℕ) (at : ℕ) (x : Column) → u32_at bs at ≡ Ok x.0 → value_at bs (at + 4) ≡ Ok x.1 → read_column bs at ≡ Ok (x, length (column_layout x))
column_by bs at x oid value =
    ap (λ r. then r (λ o. then (value_at bs (at + 4)) (λ v. Ok ((o, v), length (column_layout (o, v)))))) oid
    ∙ ap (λ r. then r (λ v. Ok ((x.0, v), length (column_layout (x.0, v))))) value

record Parts (bs : List ℕ) (at n : ℕ) (x : Column) : Type 0 where
  oid : u32_at bs at ≡ Ok x.0
  value : value_at bs (at + 4) ≡ Ok x.1
  size : length (column_layout x) ≡ n

column_ok : (bs : List ℕ) (at n : ℕ) (x : Column) → read_column bs at ≡ Ok (x, n) → Parts bs at n x
column_ok bs at n x e =
    let a = then_ok (u32_at bs at) (λ o. then (value_at bs (at + 4)) (λ v. Ok ((o, v), length (column_layout (o, v))))) (x, n) e in
    let b = then_ok (value_at bs (at + 4)) (λ v. Ok ((a.0, v), length (column_layout (a.0, v)))) (x, n) a.2 in
    let pair : ◌≡◌ {A = Column × ℕ} ((a.0, b.0), length (column_layout (a.0, b.0))) (x, n) = let q = b.2 in cc in
    subst (λ q. Parts bs at q.1 q.0) pair (record { oid = a.1; value = b.1; size = refl })

column_reads : (pre e rest : List ℕ) (x : Column) → ColumnForm x e → read_column (pre ++ (e ++ rest)) (length pre) ≡ Ok (x, length e)
column_reads pre e rest x f =
    let first = be 4 x.0 in
    let all = pre ++ (e ++ rest) in
    let apart : all ≡ pre ++ (first ++ (f.last ++ rest)) = ap (λ l. pre ++ (l ++ rest)) f.whole ∙ ap (λ l. pre ++ l) (append_assoc first f.last rest) in
    let behind : all ≡ (pre ++ first) ++ (f.last ++ rest) = apart ∙ sym (append_assoc pre first (f.last ++ rest)) in
    let place : length (pre ++ first) ≡ length pre + 4 = length-append pre first in
    let value = sized_ok _ x.1 (length f.last) (nullable_forms.reads (pre ++ first) f.last rest x.1 f.value_form) in
    let at-oid = ap (λ l. u32_at l (length pre)) apart ∙ oid_back pre (f.last ++ rest) x.0 f.typed in
    let at_value = ap (λ l. value_at l (length pre + 4)) behind ∙ ap (value_at ((pre ++ first) ++ (f.last ++ rest))) (sym place) ∙ value.0 in
    let size : length (column_layout x) ≡ length e = omega (arith, value.1, ap length f.whole) in
    column_by all (length pre) x at-oid at_value ∙ ap (λ n. Ok (x, n)) size

column_formed : (bs : List ℕ) (at n : ℕ) (x : Column) → Octets bs → read_column bs at ≡ Ok (x, n) → (at + n ≤ length bs) × ColumnForm x (take n (drop at bs))
column_formed bs at n x small e =
    let p = column_ok bs at n x e in
    let m = length (nullable x.1) in
    let o = uint_ok 4 bs at x.0 p.oid in
    let v = nullable_forms.formed bs (at + 4) m x.1 small (ap (sized (λ u. length (nullable u))) p.value) in
    let long : 4 + m ≡ n = omega (arith, p.size) in
    let last = take m (drop (at + 4) bs) in (
      omega arith,
      record {
        typed = subst (λ k. k < 2 ^ 32) o.1 (word_lt 4 bs at small o.0);
        last = last;
        value_form = v.1;
        whole = ap (λ i. take i (drop at bs)) (sym long) ∙ take-add 4 m (drop at bs)
            ∙ ap (λ l. take 4 (drop at bs) ++ take m l) (drop-drop 4 at bs)
            ∙ ap (λ l. l ++ last) (sym (be_word 4 bs at small o.0) ∙ ap (be 4) o.1);
      },
    )

-- a column is read from its forms, and from nothing else
pub column_forms : ReadsForms read_column ColumnForm
column_forms = record { reads = column_reads; formed = column_formed }

pub reads_back : (bs : List ℕ) → ReadsBack bs
reads_back bs cs f =
    let n = length cs in
    let msg = be 4 n ++ f.last in
    let head : count_at msg 0 ≡ Ok n = ap (λ r. then r (natural 0)) (i32_back [] f.last n (omega (arith, f.few)) ∙ ap Ok (to_z_pos w32 n f.few)) in
    let all : Opens msg cs = record {
      start = before msg 4 n;
      opens = ap (λ r. then r (λ m. Ok (before msg 4 m))) head;
      items = reads_row read_column ColumnForm column_forms (be 4 n) f.row;
    } in
    subst (λ l. Opens l cs) (sym f.whole) all

pub only_forms : (bs : List ℕ) → Octets bs → OnlyForms bs
only_forms bs small cs o =
    let t = then_ok (count_at bs 0) (λ n. Ok (before bs 4 n)) o.start o.opens in
    let k = count_ok bs 0 t.0 t.1 in
    let is : before bs 4 t.0 ≡ o.start = let q = t.2 in cc in
    let row = row_read read_column ColumnForm column_forms bs small 4 t.0 k.0 (subst (λ s. Reads read_column s cs) (sym is) o.items) in
    let first : take 4 bs ≡ be 4 (length cs) = sym (be_word 4 bs 0 small k.0) ∙ ap (be 4) (k.1 ∙ sym row.0) in
    record {
      few = subst (λ n. n < 2 ^ 31) (sym row.0) k.2;
      last = drop 4 bs;
      whole = sym (take-append-drop 4 bs) ∙ ap (λ l. l ++ drop 4 bs) first;
      row = row.1;
    }

-- columns as they are written have one of their forms, and are read back
pub written_row : (cs : List Column) → AllByRecursion (λ c. (c.0 < 2 ^ 32) × Within 2147483647 (Ok c.1)) cs → Row ColumnForm cs (columns_layout cs)
written_row [] fit = none
written_row (c ∷ cs) fit = one (record { typed = fit.0.0; last = nullable c.1; value_form = nullable_written c.1 fit.0.1; whole = refl }) (written_row cs fit.1)

pub record_back : (cs : List Column) → length cs < 2 ^ 31 → AllByRecursion (λ c. (c.0 < 2 ^ 32) × Within 2147483647 (Ok c.1)) cs → Opens (record_layout cs) cs
record_back cs few fit = reads_back (record_layout cs) cs (record { few = few; last = columns_layout cs; whole = refl; row = written_row cs fit })
