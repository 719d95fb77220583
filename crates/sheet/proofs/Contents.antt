-- What fills a column, as the item that is filed.
use Rattle.std.proofs.Common.{◌≡◌, ℕ, List, Ok, Err, refl}
use Rattle.array.specs.declared.dimension.ArrayDimension.{ArrayDimension}
use Rattle.content.specs.Calls as calls
use Rattle.content.specs.Calls.{held}
use Rattle.content.specs.Encoders.{array_content}
use Rattle.content.specs.Held.{held_item, an_array}
use Rattle.content.specs.Rules.{Kept, array_rule}
use Rattle.rows.specs.Rows.{sealed}
use Rattle.array.specs.Layout.{array_layout}
use Rattle.serializer.specs.Lists.{values}
use Rattle.wire.specs.Items.{Item}
use Rattle.wire.specs.Words.{Value, then}

array_by : (k : Kept) (oid : ℕ) (ds : List ArrayDimension) (vs : List Value) → sealed 0 (then k (λ _. Ok (array_layout ds oid vs))) ≡ held_item (then k (λ _. Ok (an_array oid ds vs)))
array_by (Ok tt) oid ds vs = refl
array_by (Err f) oid ds vs = refl

pub array_item : (oid : ℕ) (ds : List ArrayDimension) (is : List Item) → sealed 0 (array_content oid ds is) ≡ held_item (held (calls.array oid ds is))
array_item oid ds is = array_by (array_rule ds is) oid ds (values is)
