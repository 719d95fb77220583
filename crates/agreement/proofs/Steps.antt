-- A sheet holds its book, and every call keeps that.
use Rattle.std.proofs.Common.{◌≡◌, ℕ, ◌+◌, ◌^◌, ◌<◌, ◌≤◌, Bool, true, false, cond, ltb, leb, List, [], ◌∷◌, ◌++◌, length, take, drop, Some, None, Ok, Err, Result, sym, refl, ap, ◌∙◌, subst, arith, lit<}
use Rattle.std.proofs.lemmas.List.{append_assoc, length-append, length-drop, length-map, length_push, length-take-le, map-append, take-append-drop, take_at, take-take, flat_map_more}
use Rattle.std.proofs.lemmas.Bool.{leb-true, ltb-true, cond-true, le-leb}
use Rattle.std.specs.List.{AllByRecursion}
use Rattle.fault.specs.declared.Fault.{Fault}
use Rattle.fault.specs.declared.Rule.TheVariants.{NoRoom, TooGreat}
use Rattle.fault.specs.Faults.{fault}
use Rattle.content.specs.Calls.{held}
use Rattle.content.specs.Held.{Held, value_of, counted_value, held_item}
use Rattle.record.specs.Layout.{Column, column_layout, columns_layout, record_layout}
use Rattle.record.proofs.Laws.{record_back}
use Rattle.sheet.specs.declared.sheet.Sheet.{Sheet}
use Rattle.sheet.specs.Filing.{sheet, sheet_bytes, blank_bytes, told_blank, placed, filing, told_filed, sheet_after, bytes_after, Did}
use Rattle.wire.specs.Bytes.{put, over}
use Rattle.wire.specs.Encoding.{Encoding, laid, room_for}
use Rattle.wire.specs.Items.{Item, Within}
use Rattle.wire.specs.Words.{Value, be, then}
use Rattle.wire.proofs.Taking.{passed}
use Rattle.wire.proofs.Writing.{length_put, put_start}
use Rattle.agreement.specs.Agreed.{ByTheRules, KeptBook, EqualBytes}
use Rattle.agreement.specs.Book.{Call, Book, cell, cells, fill_of, outcome, entered, book_after, book_from, book, answered}
use Rattle.agreement.specs.Reading as reading
use Rattle.agreement.specs.Reading.{ReadsAs, ColumnsAs, SheetReads}
use Rattle.agreement.specs.Runs.{Done, Run, end, call, Filed, Typed, TypedContent, calls}
use Rattle.agreement.proofs.Columns.{held_reads}
use Rattle.agreement.proofs.Same.{same_book}

-- what a record can hold
abbrev Sound : Column → Type 0
Sound c = (c.0 < 2 ^ 32) × Within 2147483647 (Ok c.1)

pub record Holds (B : Book) (s : Sheet) (b : List ℕ) : Type 0 where
  pub fill : s.fill ≡ fill_of B
  pub columns : s.columns ≡ length B
  pub few : length B < 2 ^ 31
  pub room : s.fill ≤ length b
  pub bytes : sheet_bytes s b ≡ record_layout (cells B)
  pub sound : AllByRecursion Sound (cells B)
  pub reads : AllByRecursion (λ c. ReadsAs c.1 (value_of c.1)) B

-- a column more, behind the others
all_push : {X : Type 0} (P : X → Type 0) (xs : List X) (x : X) → AllByRecursion P xs → P x → AllByRecursion P (xs ++ (x ∷ []))
all_push P [] x all p = (p, tt)
all_push P (y ∷ ys) x all p = (all.0, all_push P ys x all.1 p)

cells_push : (B : Book) (oid : ℕ) (h : Held) → cells (B ++ ((oid, h) ∷ [])) ≡ cells B ++ ((oid, value_of h) ∷ [])
cells_push B oid h = map-append cell B ((oid, h) ∷ [])

layout_push : (cs : List Column) (c : Column) → record_layout (cs ++ (c ∷ [])) ≡ be 4 (length cs + 1) ++ (columns_layout cs ++ column_layout c)
layout_push cs c = ap (λ n. be 4 n ++ columns_layout (cs ++ (c ∷ []))) (length_push cs c) ∙ ap (λ l. be 4 (length cs + 1) ++ l) (sym (flat_map_more column_layout [] cs c))

-- the bytes after the writes: the new count, the columns as they stood, and the new one
new_bytes : (n fill room : ℕ) (L ws b : List ℕ) → take fill b ≡ be 4 n ++ L → fill ≡ 4 + length L → fill + length ws ≤ room → room ≤ length b
    → take (fill + length ws) (put 0 (be 4 (n + 1)) (put fill ws (take room b)) ++ drop room b) ≡ be 4 (n + 1) ++ (L ++ ws)
new_bytes n fill room L ws b old long fits within =
    let c = take room b in
    let R = drop (fill + length ws) c in
    let D = drop room b in
    let w = be 4 (n + 1) in
    let front : take fill c ≡ be 4 n ++ L = take-take fill room b (omega arith) ∙ old in
    let first : put 0 w (put fill ws c) ≡ w ++ (L ++ (ws ++ R)) = put_start w (put fill ws c) ∙ ap (λ l. w ++ drop 4 (l ++ (ws ++ R))) front in
    let group : (w ++ (L ++ (ws ++ R))) ++ D ≡ (w ++ (L ++ ws)) ++ (R ++ D) = simp append_assoc in
    let size : length (w ++ (L ++ ws)) ≡ fill + length ws = let a = length-append L ws in omega arith in
    ap (λ l. take (fill + length ws) (l ++ D)) first ∙ ap (take (fill + length ws)) group ∙ take_at (w ++ (L ++ ws)) (R ++ D) (fill + length ws) size

-- a column that the rules let in
placed_ok : (fill columns room : ℕ) (c : Column) (ws : List ℕ) → placed fill columns room c ≡ Ok ws → (columns + 1 < 2 ^ 31) × (fill + length ws ≤ room) × (ws ≡ column_layout c)
placed_ok fill columns room c ws e =
    let a = passed (ltb (columns + 1) (2 ^ 31)) _ (fault TooGreat 0) ws (sym e) in
    let b = passed (leb (fill + length (column_layout c)) room) (Ok (column_layout c)) (fault NoRoom 0) ws a.1 in
    let same : ws ≡ column_layout c = let q = b.1 in cc in
    let low = ltb-true (columns + 1) (2 ^ 31) a.0 in
    let fits = leb-true (fill + length (column_layout c)) room b.0 in
    (low, subst (λ l. fill + length l ≤ room) (sym same) fits, same)

counted_by : (ws : List ℕ) (v : Value) (b : Bool) → ltb (length ws) (2 ^ 31) ≡ b → cond b (Ok (Some ws)) (Err (fault TooGreat 0)) ≡ Ok v → (v ≡ Some ws) × Within 2147483647 (Ok v)
counted_by ws v true t e =
    let same : v ≡ Some ws = cc in
    let low = ltb-true (length ws) (2 ^ 31) t in
    (same, subst (λ u. Within 2147483647 (Ok u)) (sym same) (omega arith))
counted_by ws v false t e = let z : ◌≡◌ {A = ℕ} 0 1 = cc in absurd (omega arith)

counted_ok : (u v : Value) → counted_value u ≡ Ok v → (v ≡ u) × Within 2147483647 (Ok v)
counted_ok None v e = let same : ◌≡◌ {A = Value} v None = cc in (same, subst (λ u. Within 2147483647 (Ok u)) (sym same) tt)
counted_ok (Some ws) v e = counted_by ws v (ltb (length ws) (2 ^ 31)) refl e

module _ (B : Book) (s t : Sheet) (b d : List ℕ) (c : Call) (r : Result (Unit {0}) Fault) (holds : Holds B s b) (within : c.room ≤ length b) (did : Did s (take c.room b) c.oid c.content r t d) where
  -- the outcome of the step
  abbrev Stepped : Result Held Fault → Type 0
  Stepped o = (r ≡ answered o) × Holds (entered B c.oid o) t (d ++ drop c.room b)

  abbrev told : Item → Encoding
  told i = then i (λ v. placed (fill_of B) (length B) c.room (c.oid, v))

  -- what was filed, by the book alone
  filed_is : (i : Item) → filing s (length (take c.room b)) c.oid i ≡ told i
  filed_is (Ok v) =
      ap (λ n. placed n s.columns (length (take c.room b)) (c.oid, v)) holds.fill
      ∙ ap (λ n. placed (fill_of B) n (length (take c.room b)) (c.oid, v)) holds.columns
      ∙ ap (λ n. placed (fill_of B) (length B) n (c.oid, v)) (length-take-le c.room b within)
  filed_is (Err f) = refl

  refused : (f : Fault) → told (held_item (held c.content)) ≡ Err f → Stepped (Err f)
  refused f e =
      let i = held_item (held c.content) in
      let is = filed_is i ∙ e in
      let same : t ≡ s = did.after ∙ ap (sheet_after s) is in
      let bytes : d ++ drop c.room b ≡ b = ap (λ l. l ++ drop c.room b) (did.bytes ∙ ap (bytes_after s (take c.room b)) is) ∙ take-append-drop c.room b in
      (did.answer ∙ ap told_filed is, subst (λ x. Holds B x (d ++ drop c.room b)) (sym same) (subst (Holds B s) (sym bytes) holds))

  taken : (h : Held) (ws : List ℕ) → c.oid < 2 ^ 32 → Within 2147483647 (Ok (value_of h)) → ReadsAs h (value_of h) → told (held_item (held c.content)) ≡ Ok ws → placed (fill_of B) (length B) c.room (c.oid, value_of h) ≡ Ok ws → Stepped (Ok h)
  taken h ws typed short reads e p =
      let i = held_item (held c.content) in
      let is = filed_is i ∙ e in
      let ok = placed_ok (fill_of B) (length B) c.room (c.oid, value_of h) ws p in
      let L = columns_layout (cells B) in
      let cs = cells B in
      let count : length cs ≡ length B = length-map B cell in
      let same : t ≡ sheet (s.fill + length ws) (s.columns + 1) = did.after ∙ ap (sheet_after s) is in
      let written : d ≡ put 0 (be 4 (s.columns + 1)) (put s.fill ws (take c.room b)) = did.bytes ∙ ap (bytes_after s (take c.room b)) is in
      let old : take s.fill b ≡ be 4 s.columns ++ L = holds.bytes ∙ ap (λ n. be 4 n ++ L) (count ∙ sym holds.columns) in
      let fits : s.fill + length ws ≤ c.room = omega (arith, ok.1, holds.fill) in
      let base : s.fill ≡ 4 + length L = omega (arith, holds.fill) in
      let new = new_bytes s.columns s.fill c.room L ws b old base fits within in
      let layout : record_layout (cells (B ++ ((c.oid, h) ∷ []))) ≡ be 4 (s.columns + 1) ++ (L ++ ws) =
      ap record_layout (cells_push B c.oid h) ∙ layout_push cs (c.oid, value_of h)
      ∙ ap (λ n. be 4 (n + 1) ++ (L ++ column_layout (c.oid, value_of h))) (count ∙ sym holds.columns)
      ∙ ap (λ l. be 4 (s.columns + 1) ++ (L ++ l)) (sym ok.2) in
      let whole : take (s.fill + length ws) (d ++ drop c.room b) ≡ record_layout (cells (B ++ ((c.oid, h) ∷ []))) = ap (λ l. take (s.fill + length ws) (l ++ drop c.room b)) written ∙ new ∙ sym layout in
      let lent = take c.room b in
      let lent-long = length-take-le c.room b within in
      let first-long = length_put s.fill ws lent (omega (arith, lent-long, fits)) in
      let both_long = length_put 0 (be 4 (s.columns + 1)) (put s.fill ws lent) (omega (arith, first-long, lent-long, base, fits)) in
      let long : length (d ++ drop c.room b) ≡ length b = length-append d (drop c.room b) ∙ omega (arith, ap length written, both_long, first-long, lent-long, length-drop c.room b) in
      let all : Holds (B ++ ((c.oid, h) ∷ [])) (sheet (s.fill + length ws) (s.columns + 1)) (d ++ drop c.room b) = record {
        fill = let a = ap length layout in let l = length-append L ws in omega (arith, a, l, holds.fill);
        columns = ap (λ n. n + 1) holds.columns ∙ sym (length_push B (c.oid, h));
        few = omega (arith, length_push B (c.oid, h), ok.0);
        room = omega (arith, long, fits);
        bytes = whole;
        sound = subst (AllByRecursion Sound) (sym (cells_push B c.oid h)) (all_push Sound cs (c.oid, value_of h) holds.sound (typed, short));
        reads = all_push (λ x. ReadsAs x.1 (value_of x.1)) B (c.oid, h) holds.reads reads;
      } in
      (did.answer ∙ ap told_filed is, subst (λ x. Holds (B ++ ((c.oid, h) ∷ [])) x (d ++ drop c.room b)) (sym same) all)

  step_by : c.oid < 2 ^ 32 → TypedContent c.content → (q : Result Held Fault) → held c.content ≡ q → Stepped (then q (λ h. then (counted_value (value_of h)) (λ v. then (placed (fill_of B) (length B) c.room (c.oid, v)) (λ _. Ok h))))
  step_by typed content (Err f) e = refused f (ap (λ x. told (held_item x)) e)
  step_by typed content (Ok h) e = by_value (counted_value (value_of h)) refl
    where
      by_place : (v : Value) → counted_value (value_of h) ≡ Ok v → (y : Encoding) → placed (fill_of B) (length B) c.room (c.oid, v) ≡ y → Stepped (then y (λ _. Ok h))
      by_place v n (Err f) p = refused f (ap (λ x. told (held_item x)) e ∙ ap told n ∙ p)
      by_place v n (Ok ws) p =
          let k = counted_ok (value_of h) v n in
          taken h ws typed (subst (λ u. Within 2147483647 (Ok u)) k.0 k.1) (held_reads c.content h content e) (ap (λ x. told (held_item x)) e ∙ ap told n ∙ p) (ap (λ u. placed (fill_of B) (length B) c.room (c.oid, u)) (sym k.0) ∙ p)

      by_value : (x : Item) → counted_value (value_of h) ≡ x → Stepped (then x (λ v. then (placed (fill_of B) (length B) c.room (c.oid, v)) (λ _. Ok h)))
      by_value (Err f) n = refused f (ap (λ x. told (held_item x)) e ∙ ap told n)
      by_value (Ok v) n = by_place v n (placed (fill_of B) (length B) c.room (c.oid, v)) refl

  -- a call is answered by the rules, and the sheet holds the book after it
  pub step : c.oid < 2 ^ 32 → TypedContent c.content → Stepped (outcome B c)
  step typed content = step_by typed content (held c.content) refl

-- a life from a sheet that holds a book
pub record Lived (B : Book) (cs : List Done) (s : Sheet) (b : List ℕ) : Type 0 where
  pub answers : ByTheRules B cs
  pub holds : Holds (book_from B (calls cs)) s b

lives : {s t : Sheet} {b d : List ℕ} {cs : List Done} → Run s b cs t d → (B : Book) → AllByRecursion Typed cs → Holds B s b → Lived B cs t d
lives end B typed holds = record { answers = tt; holds = holds }
lives (call {s = s} {t = t} {b = b} {d = d} {c = c} {r = r} within did rest) B typed holds =
    let one = step B s t b d c r holds within did typed.0.0 typed.0.1 in
    let more = lives rest (book_after B c) typed.1 one.1 in
    record { answers = (one.0, more.answers); holds = more.holds }

-- a blank sheet holds the empty book
blank_by : (room : ℕ) (s : Sheet) (x : Bool) → leb 4 room ≡ x → cond x (Ok (sheet 4 0)) (Err (fault NoRoom 0)) ≡ Ok s → (4 ≤ room) × (s ≡ sheet 4 0)
blank_by room s true t e = (leb-true 4 room t, cc)
blank_by room s false t e = let z : ◌≡◌ {A = ℕ} 0 1 = cc in absurd (omega arith)

blank_holds : (start : List ℕ) (s : Sheet) → told_blank (length start) ≡ Ok s → Holds [] s (laid (room_for (length start) (Ok blank_bytes)) start)
blank_holds start s e =
    let k = blank_by (length start) s (leb 4 (length start)) refl e in
    let fits : laid (room_for (length start) (Ok blank_bytes)) start ≡ over blank_bytes start = ap (λ x. laid x start) (cond-true _ _ _ (le-leb 4 (length start) k.0)) in
    let all : Holds [] (sheet 4 0) (over blank_bytes start) = record {
      fill = refl;
      columns = refl;
      few = lit< tt;
      room = omega arith;
      bytes = refl;
      sound = tt;
      reads = tt;
    } in
    subst (λ x. Holds [] x (laid (room_for (length start) (Ok blank_bytes)) start)) (sym k.1) (subst (Holds [] (sheet 4 0)) (sym fits) all)

columns_as : (B : Book) → AllByRecursion (λ c. ReadsAs c.1 (value_of c.1)) B → ColumnsAs B (cells B)
columns_as [] all = reading.none
columns_as (c ∷ B) all = reading.one all.0 (columns_as B all.1)

-- what a sheet that holds a book reads as
pub holds_reads : (B : Book) (s : Sheet) (b : List ℕ) → Holds B s b → SheetReads (sheet_bytes s b) B
holds_reads B s b h =
    let count : length (cells B) < 2 ^ 31 = omega (arith, length-map B cell, h.few) in
    subst (λ l. SheetReads l B) (sym h.bytes) (record { columns = cells B; opens = record_back (cells B) count h.sound; each = columns_as B h.reads })

pub lived : (cs : List Done) (s : Sheet) (b : List ℕ) → AllByRecursion Typed cs → Filed cs s b → Lived [] cs s b
lived cs s b typed f = lives f.run [] typed (blank_holds f.start f.first f.blank)

pub book_kept : (s : Sheet) (b : List ℕ) (cs : List Done) → AllByRecursion Typed cs → Filed cs s b → KeptBook cs s b
book_kept s b cs typed f =
    let l = lived cs s b typed f in
    record { answers = l.answers; reads = holds_reads (book (calls cs)) s b l.holds }

pub equal_bytes : (s : Sheet) (b : List ℕ) (t : Sheet) (d : List ℕ) → EqualBytes s b t d
equal_bytes s b t d cs ds typed typed-too f g kinds =
    let ours = (lived cs s b typed f).holds in
    let theirs = (lived ds t d typed-too g).holds in
    let mine = holds_reads (book (calls cs)) s b ours in
    let yours = holds_reads (book (calls ds)) t d theirs in
    (λ e. same_book (sheet_bytes s b) kinds mine (subst (λ l. SheetReads l (book (calls ds))) (sym e) yours), λ e. ours.bytes ∙ ap (λ B. record_layout (cells B)) e ∙ sym theirs.bytes)
