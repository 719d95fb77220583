-- Piles: any serializer or validator, its bottom, under layers in any number.
use Rattle.std.specs.Prelude.{◌≡◌, ℕ, ◌^◌, ◌<◌, ◌↔◌, List, [], ◌∷◌}
use Rattle.std.specs.List.{AllByRecursion}
use Rattle.wire.specs.Items.{Item}
use Rattle.rows.specs.declared.row.ArrayRow.{ArrayRow}
use Rattle.rows.specs.declared.row.RangeRow.{RangeRow}
use Rattle.rows.specs.Rows.{array_layer, range_layer}
use Rattle.validator.specs.Reading.{Reading, ReadsArray, ReadsRange}
use Rattle.validator.specs.Verdicts.{Outcome, Verdict, array_verdict, range_verdict}

-- a layer over validators
pub data Layer : Type 0 where
  arrays : Layer
  ranges : Layer

-- what a layer makes of the validator below
abbrev pub layer_verdict : Layer → Verdict → Verdict
layer_verdict arrays below = array_verdict below
layer_verdict ranges below = range_verdict below

-- layers over a bottom, the outermost first
abbrev pub pile_verdict : List Layer → Verdict → Verdict
pile_verdict [] bottom = bottom
pile_verdict (l ∷ ls) bottom = layer_verdict l (pile_verdict ls bottom)

-- reading to the end at every level: each payload of a level is read to the end by the one below
abbrev pub layer_reading : Layer → Reading → Reading
layer_reading arrays below = ReadsArray below
layer_reading ranges below = ReadsRange below

abbrev pub pile_reading : List Layer → Reading → Reading
pile_reading [] bottom = bottom
pile_reading (l ∷ ls) bottom = layer_reading l (pile_reading ls bottom)

-- at the bottom, reading is what the validator there says
abbrev pub By : Verdict → Reading
By bottom bs o = bottom bs ≡ o

-- a pile of validators gives what reading to the end at every level meets: accepted where it meets no fault, else the first
abbrev pub ReadsExactly : Verdict → List ℕ → Type 0
ReadsExactly v bs = (ls : List Layer) (bottom : Verdict) → ((p : List ℕ) → v p ≡ pile_verdict ls bottom p) → (o : Outcome) → (v bs ≡ o) ↔ pile_reading ls (By bottom) bs o

-- a layer over serializers: its element OID, if it has one, and its rows
pub data Rows : Type 0 where
  array_rows : ℕ → List ArrayRow → Rows
  range_rows : List RangeRow → Rows

-- the items of a layer, by those below
abbrev pub layer_items : Rows → List Item → List Item
layer_items (array_rows oid rows) is = array_layer oid rows is
layer_items (range_rows rows) is = range_layer rows is

abbrev pub pile_items : List Rows → List Item → List Item
pile_items [] bottom = bottom
pile_items (l ∷ ls) bottom = layer_items l (pile_items ls bottom)

-- the layer that reads what rows write
abbrev pub layer_of : Rows → Layer
layer_of (array_rows oid rows) = arrays
layer_of (range_rows rows) = ranges

-- an OID of 32 bits, and numbers of items of 16
abbrev pub Typed : Rows → Type 0
Typed (array_rows oid rows) = (oid < 2 ^ 32) × AllByRecursion (λ r. r.count < 2 ^ 16) rows
Typed (range_rows rows) = Unit {0}
