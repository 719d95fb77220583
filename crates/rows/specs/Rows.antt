-- The items of a layer: each row is an array or a range of the items below.
use Rattle.std.specs.Prelude.{ℕ, zero, suc, ◌+◌, ◌^◌, cond, List, [], ◌∷◌, length, pos, Some, Ok, Err, ◌==◌, nat_lt, slice_index_or}
use Rattle.std.proofs.Common.{arith}
use Rattle.std.proofs.lemmas.Bool.{ltb-true, cond_both}
use Rattle.fault.specs.declared.Fault.{Fault}
use Rattle.fault.specs.declared.Rule.TheVariants.{TooGreat}
use Rattle.fault.specs.Faults.{fault}
use Rattle.array.specs.declared.dimension.ArrayDimension.{ArrayDimension}
use Rattle.array.specs.Encoding.{array_encoding}
use Rattle.range.specs.Encoding.{range_encoding}
use Rattle.range.specs.Layout.{empty_layout}
use Rattle.serializer.specs.Lists.{Short, item_at}
use Rattle.wire.specs.Encoding.{Encoding}
use Rattle.wire.specs.Items.{Item}
use Rattle.rows.specs.declared.row.ArrayRow.{ArrayRow}
use Rattle.rows.specs.declared.row.RangeRow.{RangeRow}
use Rattle.rows.specs.declared.row.RangeRow.TheVariants.{Empty, Bounds}
use Rattle.rows.specs.Windows.{window}

-- row k: its encoding, which a length word counts, else a fault at the row
abbrev pub sealed : ℕ → Encoding → Item
sealed k (Ok ws) = cond (nat_lt (length ws) (2 ^ 31)) (Ok (Some ws)) (Err (fault TooGreat k))
sealed k (Err f) = Err f

-- one dimension from 1 on, or none for no items
abbrev pub row_dimensions : ℕ → List ArrayDimension
row_dimensions count = cond (count == 0) [] (record { len = pos count; lower_bound = pos 1 } ∷ [])

-- the items of a row of an array layer
abbrev pub array_row : ℕ → List Item → ArrayRow → Encoding
array_row oid is r = array_encoding (row_dimensions r.count) oid (window is r.first r.count)

-- a range of the items that a 16-bit number names
abbrev pub range_row : List Item → RangeRow → Encoding
range_row is Empty = Ok empty_layout
range_row is (Bounds lower upper) = range_encoding (window is 0 65536) lower upper

-- the rows, the first of them as item k
abbrev pub row_items : {R : Type 0} → (R → Encoding) → ℕ → List R → List Item
row_items encode k [] = []
row_items encode k (r ∷ rs) = sealed k (encode r) ∷ row_items encode (k + 1) rs

abbrev pub array_layer : ℕ → List ArrayRow → List Item → List Item
array_layer oid rows is = row_items (array_row oid is) 0 rows

abbrev pub range_layer : List RangeRow → List Item → List Item
range_layer rows is = row_items (range_row is) 0 rows

pub sealed_short : (k : ℕ) (e : Encoding) → Short (sealed k e)
sealed_short k (Ok ws) = cond_both (nat_lt (length ws) (2 ^ 31)) (Ok (Some ws)) (Err (fault TooGreat k)) Short (λ e. omega (arith, ltb-true (length ws) (2 ^ 31) e)) (λ e. tt)
sealed_short k (Err f) = tt

short_from : {R : Type 0} (encode : R → Encoding) (first : ℕ) (rs : List R) (k : ℕ) (f : Fault) → Short (slice_index_or (row_items encode first rs) k (Err f))
short_from encode first [] k f = tt
short_from encode first (r ∷ rs) zero f = sealed_short first (encode r)
short_from encode first (r ∷ rs) (suc k) f = short_from encode (first + 1) rs k f

-- no row's payload is longer than a length word holds
pub rows_short : {R : Type 0} (encode : R → Encoding) (rs : List R) (k : ℕ) → Short (item_at (row_items encode 0 rs) k)
rows_short encode rs k = short_from encode 0 rs k _
