-- What a pile of serializers writes, read back level by level.
use Rattle.std.specs.Prelude.{◌≡◌, ℕ, ◌+◌, ◌<◌, List, [], ◌∷◌, length, Some, None, Ok, slice_index_or}
use Rattle.array.specs.Layout.{has_null}
use Rattle.array.specs.Laws.{Opens}
use Rattle.range.specs.declared.bound.RangeBound.{RangeBound}
use Rattle.range.specs.Mapping.{Mapped}
use Rattle.range.specs.Recv.{range_recv}
use Rattle.rows.specs.declared.row.ArrayRow.{ArrayRow}
use Rattle.rows.specs.declared.row.RangeRow.{RangeRow}
use Rattle.rows.specs.declared.row.RangeRow.TheVariants.{Empty, Bounds}
use Rattle.rows.specs.Rows.{row_dimensions}
use Rattle.rows.specs.Tables.{row_at}
use Rattle.std.specs.List.{AllByRecursion}
use Rattle.serializer.specs.Lists.{Short, item_at}
use Rattle.wire.specs.Items.{Item}
use Rattle.wire.specs.Words.{Value}
use Rattle.pile.specs.Piles.{Rows, array_rows, range_rows, Typed, pile_items}

-- how the value of item k of the level below is read back
abbrev pub ReadsItem : Type 1
ReadsItem = ℕ → Value → Type 0

-- an array row reads back as its layer's element OID, its dimension if it has one, and its items in order
pub record ArrayBack (below : ReadsItem) (oid : ℕ) (r : ArrayRow) (bs : List ℕ) : Type 0 where
  pub values : List Value
  pub opens : Opens bs (has_null values) (row_dimensions r.count) oid values
  pub counted : length values ≡ r.count
  pub items : (i : ℕ) → i < r.count → below (r.first + i) (slice_index_or values i None)

-- a range row reads back as empty, or as the kinds of its two bounds with their items
pub data RangeBack (below : ReadsItem) : RangeRow → List ℕ → Type 0 where
  empty : {bs : List ℕ} → range_recv bs ≡ Ok None → RangeBack below Empty bs
  bounds : {lower upper : RangeBound ℕ} {l u : RangeBound Value} {bs : List ℕ} → range_recv bs ≡ Ok (Some (l, u)) → Mapped below lower l → Mapped below upper u → RangeBack below (Bounds lower upper) bs

-- item k of a layer is a payload, that of its row k
pub record RowBack {R : Type 0} (rows : List R) (Back : R → List ℕ → Type 0) (k : ℕ) (v : Value) : Type 0 where
  pub row : R
  pub stands : row_at rows k ≡ Ok row
  pub payload : List ℕ
  pub is : v ≡ Some payload
  pub back : Back row payload

-- a value that reads back as item k of a pile, down to the items of the bottom
abbrev pub layer_back : Rows → ReadsItem → ReadsItem
layer_back (array_rows oid rows) below = RowBack rows (ArrayBack below oid)
layer_back (range_rows rows) below = RowBack rows (RangeBack below)

abbrev pub pile_back : List Rows → List Item → ReadsItem
pile_back [] bottom k v = item_at bottom k ≡ Ok v
pile_back (l ∷ ls) bottom k v = layer_back l (pile_back ls bottom) k v

-- where items are those of a pile, the value of item k reads back as it
abbrev pub ReadsBack : List Item → ℕ → Type 0
ReadsBack items k = (ls : List Rows) (bottom : List Item) → AllByRecursion Typed ls → ((j : ℕ) → Short (item_at bottom j)) → items ≡ pile_items ls bottom → (v : Value) → item_at items k ≡ Ok v → pile_back ls bottom k v
