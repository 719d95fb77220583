-- What the texts of entries that were told say of their places.
use Rattle.std.proofs.Common.{◌≡◌, ℕ, suc, ◌+◌, ◌^◌, ◌<◌, eqb, ltb, List, [], ◌∷◌, ◌++◌, length, Some, None, Ok, Err, Result, sym, refl, ap, ◌∙◌, subst, arith, lit<}
use Rattle.std.proofs.lemmas.Bool.{cond-true, eq-eqb, eqb-true, ltb-true}
use Rattle.std.specs.List.{flat_map, AllByRecursion}
use Rattle.fault.specs.declared.Fault.{Fault}
use Rattle.fault.specs.declared.Rule.TheVariants.{NotText, TooGreat}
use Rattle.fault.specs.Faults.{fault}
use Rattle.text.specs.Recv.{text_end, text_recv}
use Rattle.text.specs.Utf8.{Text}
use Rattle.text.proofs.Ends.{end_within, reaches, is_text}
use Rattle.texts.specs.Places.{Place, Bytes, looked_up, checked_item, part_item, place_item}
use Rattle.wire.specs.Cursor.{Row, none, one}
use Rattle.wire.specs.Items.{Within, nullable}
use Rattle.wire.specs.Words.{Value, then}
use Rattle.wire.proofs.Nullables.{nullable_written}
use Rattle.wire.proofs.Taking.{then_ok, passed}
use Rattle.hstore.specs.declared.entry.HstoreEntry.{HstoreEntry}
use Rattle.hstore.specs.Encoding.{key_of, entry_text, entry_texts, place_value, places_layout, Counted, Named, EntryNamed}
use Rattle.hstore.specs.Laws.{TextValue, EntryForm, Writable}
use Rattle.hstore.specs.Layout.{Entry, entry_layout, entries_layout}

-- text is read as itself, and nothing else is read
pub text_back : (bs : List ℕ) → Text bs → text_recv bs ≡ Ok bs
text_back bs t = cond-true _ _ _ (eq-eqb (text_end bs) (length bs) (omega (arith, end_within bs, reaches bs t)))

pub text_told : (bs t : List ℕ) → text_recv bs ≡ Ok t → (bs ≡ t) × Text bs
text_told bs t e =
    let p = passed (eqb (text_end bs) (length bs)) (Ok bs) (fault NotText (text_end bs)) t (sym e) in
    let same : bs ≡ t = let q = p.1 in cc in
    (same, is_text bs (eqb-true (text_end bs) (length bs) p.0))

-- NULL or a text that a length word counts
pub record Sound (v : Value) : Type 0 where
  pub text : TextValue v
  pub short : length (nullable v) < 2 ^ 31 + 4

checked_told : (k : ℕ) (bs : List ℕ) (v : Value) (r : Result (List ℕ) Fault) → text_recv bs ≡ r → checked_item k r ≡ Ok v → (length bs < 2 ^ 31) × (Some bs ≡ v) × Sound v
checked_told k bs v (Ok t) is e =
    let p = passed (ltb (length t) (2 ^ 31)) (Ok (Some t)) (fault TooGreat k) v (sym e) in
    let q = text_told bs t is in
    let low : length bs < 2 ^ 31 = omega (arith, ltb-true (length t) (2 ^ 31) p.0, ap length q.0) in
    let same : ◌≡◌ {A = Value} (Some bs) v = let x = p.1 in let y = q.0 in cc in
    (low, same, subst Sound same (record { text = q.1; short = omega arith }))
checked_told k bs v (Err f) is e = let z : ◌≡◌ {A = ℕ} 0 1 = cc in absurd (omega arith)

part_told : (k : ℕ) (u v : Value) → part_item k u ≡ Ok v → Counted u × (u ≡ v) × Sound v
part_told k (Some bs) v e = checked_told k bs v (text_recv bs) refl e
part_told k None v e = let z : ◌≡◌ {A = ℕ} 0 1 = cc in absurd (omega arith)

place_told : (ps : Bytes) (k : ℕ) (p : Place) (v : Value) → place_item ps k p ≡ Ok v → Named ps p × (place_value ps p ≡ v) × Sound v
place_told ps k None v e =
    let same : ◌≡◌ {A = Value} None v = cc in
    (tt, same, subst Sound same (record { text = tt; short = lit< tt }))
place_told ps k (Some s) v e = part_told k (looked_up ps s) v e

key_told : (k : ℕ) (v : Value) (key : List ℕ) → key_of k v ≡ Ok key → v ≡ Some key
key_told k (Some bs) key e = cc
key_told k None key e = let z : ◌≡◌ {A = ℕ} 0 1 = cc in absurd (omega arith)

-- an entry that was told
pub record Told (ps : Bytes) (h : HstoreEntry) (x : Entry) : Type 0 where
  pub named : EntryNamed ps h
  pub same : places_layout ps h ≡ entry_layout x
  pub key : Sound (Some x.0)
  pub value : Sound x.1

entry_is : (ps : Bytes) (k : ℕ) (h : HstoreEntry) (x : Entry) → entry_text ps k h ≡ Ok x → Told ps h x
entry_is ps k h x e =
    let a = then_ok (then (place_item ps k h.key) (key_of k)) (λ key. then (place_item ps k h.value) (λ value. Ok (key, value))) x e in
    let b = then_ok (place_item ps k h.key) (key_of k) a.0 a.1 in
    let d = then_ok (place_item ps k h.value) (λ value. Ok (a.0, value)) x a.2 in
    let pair : ◌≡◌ {A = Entry} (a.0, d.0) x = let q = d.2 in cc in
    let some = key_told k b.0 a.0 b.2 in
    let key = place_told ps k h.key b.0 b.1 in
    let value = place_told ps k h.value d.0 d.1 in
    let told : Told ps h (a.0, d.0) = record {
      named = (key.0, value.0);
      same = ap (λ v. nullable v ++ nullable (place_value ps h.value)) (key.1 ∙ some) ∙ ap (λ v. nullable (Some a.0) ++ nullable v) value.1;
      key = subst Sound some key.2;
      value = value.2;
    } in
    subst (Told ps h) pair told

-- entries that were told
pub data Tolds (ps : Bytes) : List HstoreEntry → List Entry → Type 0 where
  none_told : Tolds ps [] []
  more_told : {h : HstoreEntry} {hs : List HstoreEntry} {x : Entry} {xs : List Entry} → Told ps h x → Tolds ps hs xs → Tolds ps (h ∷ hs) (x ∷ xs)

pub entries_are : (ps : Bytes) (k : ℕ) (hs : List HstoreEntry) (xs : List Entry) → entry_texts ps k hs ≡ Ok xs → Tolds ps hs xs
entries_are ps k [] xs e = let same : ◌≡◌ {A = List Entry} [] xs = cc in subst (Tolds ps []) same none_told
entries_are ps k (h ∷ hs) xs e =
    let a = then_ok (entry_text ps k h) (λ x. then (entry_texts ps (k + 1) hs) (λ ys. Ok (x ∷ ys))) xs e in
    let b = then_ok (entry_texts ps (k + 1) hs) (λ ys. Ok (a.0 ∷ ys)) xs a.2 in
    let same : a.0 ∷ b.0 ≡ xs = let q = b.2 in cc in
    subst (Tolds ps (h ∷ hs)) same (more_told (entry_is ps k h a.0 a.1) (entries_are ps (k + 1) hs b.0 b.1))

module _ {ps : Bytes} where
  pub all_named : {hs : List HstoreEntry} {xs : List Entry} → Tolds ps hs xs → AllByRecursion (EntryNamed ps) hs
  all_named none_told = tt
  all_named (more_told t ts) = (t.named, all_named ts)

  pub same_layout : {hs : List HstoreEntry} {xs : List Entry} → Tolds ps hs xs → flat_map (places_layout ps) hs ≡ entries_layout xs
  same_layout none_told = refl
  same_layout (more_told {hs = hs} {x = x} t ts) = ap (λ l. l ++ flat_map (places_layout ps) hs) t.same ∙ ap (λ l. entry_layout x ++ l) (same_layout ts)

  pub same_count : {hs : List HstoreEntry} {xs : List Entry} → Tolds ps hs xs → length xs ≡ length hs
  same_count none_told = refl
  same_count (more_told t ts) = ap suc (same_count ts)

  pub all_writable : {hs : List HstoreEntry} {xs : List Entry} → Tolds ps hs xs → AllByRecursion Writable xs
  all_writable none_told = tt
  all_writable (more_told {x = x} t ts) =
      let key = t.key.short in
      (record { key_short = omega arith; value_short = t.value.short }, all_writable ts)

-- NULL, or a payload that a length word counts
pub within : (v : Value) → length (nullable v) < 2 ^ 31 + 4 → Within 2147483647 (Ok v)
within None h = tt
within (Some bs) h = omega arith

-- as they are written, entries have one of their forms
entry_written : {ps : Bytes} (h : HstoreEntry) (x : Entry) → Told ps h x → EntryForm x (entry_layout x)
entry_written h x t =
    let key = t.key.short in
    record {
      short = omega arith;
      key_text = t.key.text;
      value_text = t.value.text;
      last = nullable x.1;
      value_form = nullable_written x.1 (within x.1 t.value.short);
      whole = refl;
    }

pub written_row : {ps : Bytes} {hs : List HstoreEntry} {xs : List Entry} → Tolds ps hs xs → Row EntryForm xs (entries_layout xs)
written_row none_told = none
written_row (more_told {h = h} {x = x} t ts) = one (entry_written h x t) (written_row ts)
