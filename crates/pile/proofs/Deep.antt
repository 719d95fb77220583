-- What a pile writes: a matching pile accepts it, and it reads back as the rows.
use Rattle.std.proofs.Common.{◌≡◌, ℕ, suc, ◌+◌, ◌^◌, ◌<◌, List, [], ◌∷◌, map, length, get_or, Some, None, Ok, Err, sym, refl, ap, ◌∙◌, subst, arith}
use Rattle.std.specs.List.{AllByRecursion}
use Rattle.fault.specs.declared.Rule.TheVariants.{Missing}
use Rattle.fault.specs.Faults.{fault}
use Rattle.wire.specs.Cursor.{State, Reads, end, more, read_nullable}
use Rattle.wire.specs.Items.{Item}
use Rattle.wire.specs.Words.{Value}
use Rattle.serializer.specs.Lists.{Short, item_at, values}
use Rattle.range.specs.declared.bound.RangeBound.{RangeBound}
use Rattle.range.specs.Mapping as mapping
use Rattle.range.specs.Mapping.{Mapped}
use Rattle.range.specs.Layout.{bound, empty_layout}
use Rattle.range.specs.Recv.{range_recv}
use Rattle.rows.specs.declared.row.ArrayRow.{ArrayRow}
use Rattle.rows.specs.declared.row.RangeRow.{RangeRow}
use Rattle.rows.specs.declared.row.RangeRow.TheVariants.{Empty, Bounds}
use Rattle.rows.specs.Rows.{array_row, range_row, rows_short}
use Rattle.rows.specs.Windows.{window}
use Rattle.validator.specs.Reading.{Hands, null, accepted, Walks, ends, goes_on, opened, ReadsSide, inclusive, exclusive, unbounded, empty, passed}
use Rattle.validator.specs.Verdicts.{Verdict, array_verdict, range_verdict}
use Rattle.pile.specs.Back as back
use Rattle.pile.specs.Back.{ReadsItem, ArrayBack, RangeBack, bounds, RowBack, pile_back, ReadsBack}
use Rattle.pile.specs.Match.{Accepts, AcceptsAll, Matching}
use Rattle.pile.specs.Piles.{Rows, array_rows, range_rows, By, Typed, layer_of, layer_items, pile_items, layer_verdict, pile_verdict}
use Rattle.pile.proofs.Agree.{Agrees, array_agrees, range_agrees}
use Rattle.pile.proofs.Ranges.{range_read}
use Rattle.pile.proofs.Written.{row_of, row_has, array_read}

-- items are short at every level
layer_short : (l : Rows) (is : List Item) (k : ℕ) → Short (item_at (layer_items l is) k)
layer_short (array_rows oid rows) is k = rows_short (array_row oid is) rows k
layer_short (range_rows rows) is k = rows_short (range_row is) rows k

pile_short : (ls : List Rows) (bottom : List Item) → ((k : ℕ) → Short (item_at bottom k)) → (k : ℕ) → Short (item_at (pile_items ls bottom) k)
pile_short [] bottom short k = short k
pile_short (l ∷ ls) bottom short k = layer_short l (pile_items ls bottom) k

by_agrees : (v : Verdict) → Agrees v (By v)
by_agrees v = record { meets = λ bs. refl; only = λ bs o e. e }

-- of an item that has a value, it is enough to know that of a payload
pub accepts_by : (w : Verdict) (i : Item) → ((bs : List ℕ) → i ≡ Ok (Some bs) → w bs ≡ Ok tt) → Accepts w i
accepts_by w (Ok None) h = tt
accepts_by w (Ok (Some bs)) h = h bs refl
accepts_by w (Err f) h = tt

module _ (v : Verdict) (is : List Item) (short : (k : ℕ) → Short (item_at is k)) (accepts : AcceptsAll v is) where
  -- a value of an item is handed down and accepted
  value_passes : (k at : ℕ) (x : Value) → item_at is k ≡ Ok x → Hands (By v) at x (Ok tt)
  value_passes k at None e = null
  value_passes k at (Some p) e = accepted (subst (Accepts v) e (accepts k))

  values_pass : {s : State} {vs : List Value} → Reads read_nullable s vs → ((i at : ℕ) → i < length vs → Hands (By v) at (get_or vs i None) (Ok tt)) → Walks read_nullable (Hands (By v)) s (Ok tt)
  values_pass (end e) hands = ends e
  values_pass {s} (more {x = x} e rest) hands = goes_on e (hands 0 s.place (omega arith)) (values_pass rest (λ i at h. hands (suc i) at (omega arith)))

  array_accepted : (oid : ℕ) (r : ArrayRow) (ws : List ℕ) → oid < 2 ^ 32 → r.count < 2 ^ 16 → array_row oid is r ≡ Ok ws → array_verdict v ws ≡ Ok tt
  array_accepted oid r ws typed few e =
      let a = array_read oid is r ws short typed few e in
      let o = a.opens in
      let vs = values (window is r.first r.count) in
      let walk = values_pass o.items (λ i at h. value_passes (r.first + i) at (get_or vs i None) (a.found.each i (omega (arith, a.found.counted)))) in
      (array_agrees v (By v) (by_agrees v)).only ws (Ok tt) (opened o.opens walk)

  side_passes : (at : ℕ) (b : RangeBound ℕ) (c : RangeBound Value) → Mapped (λ k x. item_at is k ≡ Ok x) b c → ReadsSide (By v) at c (Ok tt)
  side_passes at _ _ (mapping.inclusive {x = k} {y = x} e) = inclusive (value_passes k at x e)
  side_passes at _ _ (mapping.exclusive {x = k} {y = x} e) = exclusive (value_passes k at x e)
  side_passes at _ _ mapping.unbounded = unbounded

  range_accepted : (r : RangeRow) (ws : List ℕ) → range_row is r ≡ Ok ws → range_verdict v ws ≡ Ok tt
  range_accepted Empty ws e =
      let same : empty_layout ≡ ws = cc in
      (range_agrees v (By v) (by_agrees v)).only ws (Ok tt) (empty (sym (ap range_recv same)))
  range_accepted (Bounds lower upper) ws e =
      let a = range_read is lower upper ws short e in
      (range_agrees v (By v) (by_agrees v)).only ws (Ok tt) (passed a.reads (side_passes 1 lower a.l a.low) (side_passes (1 + length (bound a.l)) upper a.u a.high))

  pub layer_accepts : (l : Rows) → Typed l → AcceptsAll (layer_verdict (layer_of l) v) (layer_items l is)
  layer_accepts (array_rows oid rows) typed k =
      accepts_by (array_verdict v) (item_at (layer_items (array_rows oid rows) is) k) (λ bs e.
      let f = row_of (array_row oid is) 0 rows k k (fault Missing k) (Some bs) e in
      let same : f.bytes ≡ bs = let q = f.is in cc in
      array_accepted oid f.row bs typed.0 (row_has (λ r. r.count < 2 ^ 16) rows k k f.row typed.1 f.stands) (f.encoded ∙ ap Ok same))
  layer_accepts (range_rows rows) typed k =
      accepts_by (range_verdict v) (item_at (layer_items (range_rows rows) is) k) (λ bs e.
      let f = row_of (range_row is) 0 rows k k (fault Missing k) (Some bs) e in
      let same : f.bytes ≡ bs = let q = f.is in cc in
      range_accepted f.row bs (f.encoded ∙ ap Ok same))

-- at every depth, over every bottom
pub pile_accepts : (ls : List Rows) (bottom : List Item) (v : Verdict) → AllByRecursion Typed ls → ((k : ℕ) → Short (item_at bottom k)) → AcceptsAll v bottom → AcceptsAll (pile_verdict (map layer_of ls) v) (pile_items ls bottom)
pile_accepts [] bottom v typed short accepts = accepts
pile_accepts (l ∷ ls) bottom v typed short accepts =
    layer_accepts (pile_verdict (map layer_of ls) v) (pile_items ls bottom) (pile_short ls bottom short) (pile_accepts ls bottom v typed.1 short accepts) l typed.0

module _ (below : ReadsItem) (is : List Item) (short : (k : ℕ) → Short (item_at is k)) (reads : (k : ℕ) (x : Value) → item_at is k ≡ Ok x → below k x) where
  array_back : (oid : ℕ) (r : ArrayRow) (ws : List ℕ) → oid < 2 ^ 32 → r.count < 2 ^ 16 → array_row oid is r ≡ Ok ws → ArrayBack below oid r ws
  array_back oid r ws typed few e =
      let a = array_read oid is r ws short typed few e in
      record { values = values (window is r.first r.count); opens = a.opens; counted = a.found.counted; items = λ i h. reads (r.first + i) _ (a.found.each i h) }

  side_back : (b : RangeBound ℕ) (c : RangeBound Value) → Mapped (λ k x. item_at is k ≡ Ok x) b c → Mapped below b c
  side_back _ _ (mapping.inclusive {x = k} {y = x} e) = mapping.inclusive (reads k x e)
  side_back _ _ (mapping.exclusive {x = k} {y = x} e) = mapping.exclusive (reads k x e)
  side_back _ _ mapping.unbounded = mapping.unbounded

  range_back : (r : RangeRow) (ws : List ℕ) → range_row is r ≡ Ok ws → RangeBack below r ws
  range_back Empty ws e =
      let same : empty_layout ≡ ws = cc in
      back.empty (sym (ap range_recv same))
  range_back (Bounds lower upper) ws e =
      let a = range_read is lower upper ws short e in
      bounds a.reads (side_back lower a.l a.low) (side_back upper a.u a.high)

  layer_reads : (l : Rows) → Typed l → (k : ℕ) (x : Value) → item_at (layer_items l is) k ≡ Ok x → back.layer_back l below k x
  layer_reads (array_rows oid rows) typed k x e =
      let f = row_of (array_row oid is) 0 rows k k (fault Missing k) x e in
      record { row = f.row; stands = f.stands; payload = f.bytes; is = f.is; back = array_back oid f.row f.bytes typed.0 (row_has (λ r. r.count < 2 ^ 16) rows k k f.row typed.1 f.stands) f.encoded }
  layer_reads (range_rows rows) typed k x e =
      let f = row_of (range_row is) 0 rows k k (fault Missing k) x e in
      record { row = f.row; stands = f.stands; payload = f.bytes; is = f.is; back = range_back f.row f.bytes f.encoded }

pub pile_reads : (ls : List Rows) (bottom : List Item) → AllByRecursion Typed ls → ((k : ℕ) → Short (item_at bottom k)) → (k : ℕ) (x : Value) → item_at (pile_items ls bottom) k ≡ Ok x → pile_back ls bottom k x
pile_reads [] bottom typed short k x e = e
pile_reads (l ∷ ls) bottom typed short k x e =
    layer_reads (pile_back ls bottom) (pile_items ls bottom) (pile_short ls bottom short) (pile_reads ls bottom typed.1 short) l typed.0 k x e

pub reads_back : (items : List Item) (k : ℕ) → ReadsBack items k
reads_back items k ls bottom typed short is x e = pile_reads ls bottom typed short k x (sym (ap (λ js. item_at js k) is) ∙ e)

-- a matching pile accepts every payload
pub matching_accepts : (items : List Item) (v : Verdict) (m : Matching items v) (k : ℕ) (bs : List ℕ) → item_at items k ≡ Ok (Some bs) → v bs ≡ Ok tt
matching_accepts items v m k bs e =
    let all = pile_accepts m.layers m.bottom m.below m.typed m.short m.accepts k in
    m.judges bs ∙ subst (Accepts (pile_verdict (map layer_of m.layers) m.below)) (sym (ap (λ js. item_at js k) m.writes) ∙ e) all
