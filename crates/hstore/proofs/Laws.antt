-- Hstores, there and back.
use Rattle.std.proofs.Common.{◌≡◌, ℕ, ◌+◌, ◌^◌, ◌<◌, List, [], ◌∷◌, ◌++◌, length, take, drop, Some, Ok, sym, refl, ap, ◌∙◌, subst, arith, w32}
use Rattle.std.proofs.lemmas.List.{append_assoc, append_cancel_left, take-append-drop}
use Rattle.std.proofs.lemmas.Int.{to_z_pos}
use Rattle.std.specs.List.{AllByRecursion}
use Rattle.texts.specs.Places.{Bytes}
use Rattle.wire.specs.Bytes.{Octets}
use Rattle.wire.specs.Cursor.{Reads, before}
use Rattle.wire.specs.Items.{nullable}
use Rattle.wire.specs.Words.{Value, be, then, natural, value_at, count_at}
use Rattle.wire.proofs.Cursors.{reads_row, row_read}
use Rattle.wire.proofs.Nullables.{i32_back, nullable_written}
use Rattle.wire.proofs.Taking.{then_ok, count_ok}
use Rattle.wire.proofs.Wording.{be_word}
use Rattle.hstore.specs.declared.entry.HstoreEntry.{HstoreEntry}
use Rattle.hstore.specs.Laws.{EntryForm, Form, Opens, ReadsBack, OnlyForms, WrittenBack, Writable, Distinct}
use Rattle.hstore.specs.Layout.{Entry, entries_layout, hstore_layout}
use Rattle.hstore.specs.Recv.{read_entry}
use Rattle.hstore.proofs.Forms.{value_back, entry_forms}
use Rattle.hstore.proofs.Texts.{entries_are, same_count, all_writable, within, written_row}

pub reads_back : (bs : List ℕ) → ReadsBack bs
reads_back bs es f =
    let n = length es in
    let msg = be 4 n ++ f.last in
    let head : count_at msg 0 ≡ Ok n = ap (λ r. then r (natural 0)) (i32_back [] f.last n (omega (arith, f.few)) ∙ ap Ok (to_z_pos w32 n f.few)) in
    let all : Opens msg es = record {
      start = before msg 4 n;
      opens = ap (λ r. then r (λ m. Ok (before msg 4 m))) head;
      items = reads_row read_entry EntryForm entry_forms (be 4 n) f.row;
    } in
    subst (λ l. Opens l es) (sym f.whole) all

pub only_forms : (bs : List ℕ) → Octets bs → OnlyForms bs
only_forms bs small es o =
    let t = then_ok (count_at bs 0) (λ n. Ok (before bs 4 n)) o.start o.opens in
    let k = count_ok bs 0 t.0 t.1 in
    let is : before bs 4 t.0 ≡ o.start = let q = t.2 in cc in
    let row = row_read read_entry EntryForm entry_forms bs small 4 t.0 k.0 (subst (λ s. Reads read_entry s es) (sym is) o.items) in
    let first : take 4 bs ≡ be 4 (length es) = sym (be_word 4 bs 0 small k.0) ∙ ap (be 4) (k.1 ∙ sym row.0) in
    record {
      few = subst (λ n. n < 2 ^ 31) (sym row.0) k.2;
      last = drop 4 bs;
      whole = sym (take-append-drop 4 bs) ∙ ap (λ l. l ++ drop 4 bs) first;
      row = row.1;
    }

pub written_back : (ps : Bytes) (hs : List HstoreEntry) → WrittenBack ps hs
written_back ps hs es e few =
    let told = entries_are ps 0 hs es e in
    let form : Form es (hstore_layout es) = record { few = omega (arith, same_count told); last = entries_layout es; whole = refl; row = written_row told } in
    reads_back (hstore_layout es) es form

-- a value that stands first tells itself and what follows it
same_first : (v w : Value) (rest more : List ℕ) → length (nullable v) < 2 ^ 31 + 4 → length (nullable w) < 2 ^ 31 + 4 → nullable v ++ rest ≡ nullable w ++ more → (v ≡ w) × (rest ≡ more)
same_first v w rest more p q e =
    let a : value_at (nullable v ++ rest) 0 ≡ Ok v = value_back [] (nullable v) rest v refl refl (nullable_written v (within v p)) in
    let b : value_at (nullable v ++ rest) 0 ≡ Ok w = value_back [] (nullable w) more w e refl (nullable_written w (within w q)) in
    let same : v ≡ w = cc in
    (same, append_cancel_left (nullable w) rest more (ap (λ u. nullable u ++ rest) (sym same) ∙ e))

same_entries : (fs es : List Entry) → AllByRecursion Writable fs → AllByRecursion Writable es → entries_layout fs ≡ entries_layout es → fs ≡ es
same_entries [] [] p q e = refl
same_entries [] (x ∷ es) p q e = let l = ap length e in absurd (omega arith)
same_entries (y ∷ fs) [] p q e = let l = ap length e in absurd (omega arith)
same_entries (y ∷ fs) (x ∷ es) p q e =
    let apart : nullable (Some y.0) ++ (nullable y.1 ++ entries_layout fs) ≡ nullable (Some x.0) ++ (nullable x.1 ++ entries_layout es) =
    sym (append_assoc (nullable (Some y.0)) (nullable y.1) (entries_layout fs)) ∙ e ∙ append_assoc (nullable (Some x.0)) (nullable x.1) (entries_layout es) in
    let y-short = p.0.key_short in
    let x-short = q.0.key_short in
    let key = same_first (Some y.0) (Some x.0) _ _ (omega arith) (omega arith) apart in
    let value = same_first y.1 x.1 (entries_layout fs) (entries_layout es) p.0.value_short q.0.value_short key.1 in
    let same : y.0 ≡ x.0 = let k = key.0 in cc in
    let rest = same_entries fs es p.1 q.1 value.1 in
    ap (λ k. (k, y.1) ∷ fs) same ∙ ap (λ v. (x.0, v) ∷ fs) value.0 ∙ ap (λ l. x ∷ l) rest

pub distinct : (ps : Bytes) (hs : List HstoreEntry) → Distinct ps hs
distinct ps hs es e few fs less writable same = same_entries fs es writable (all_writable (entries_are ps 0 hs es e)) (ap (drop 4) same)
