-- The eleven calls of a sheet, by what they are handed: a serializer by its items.
use Rattle.std.specs.Prelude.{ℕ, Bool, List, length, Ok, Result}
use Rattle.fault.specs.declared.Fault.{Fault}
use Rattle.array.specs.declared.dimension.ArrayDimension.{ArrayDimension}
use Rattle.double.specs.declared.point.Box.{Box}
use Rattle.double.specs.declared.point.Point.{Point}
use Rattle.hstore.specs.declared.entry.HstoreEntry.{HstoreEntry}
use Rattle.inet.specs.declared.address.IpAddr.{IpAddr}
use Rattle.range.specs.declared.bound.RangeBound.{RangeBound}
use Rattle.serializer.specs.Lists.{item_at, values}
use Rattle.texts.specs.Places.{Bytes}
use Rattle.wire.specs.Items.{Item}
use Rattle.wire.specs.Words.{then}
use Rattle.rows.specs.Windows.{above}
use Rattle.content.specs.Held.{Held, no_value, an_item, an_array, a_range, the_empty_range, an_hstore, a_varbit, a_point, a_box, a_path, an_inet}
use Rattle.content.specs.Rules.{few, array_rule, range_bounds, hstore_entries, varbit_rule, inet_rule}

pub data Content : Type 0 where
  null : Content
  -- the items, and which of them
  column : List Item → ℕ → Content
  -- element OID, dimensions, items
  array : ℕ → List ArrayDimension → List Item → Content
  -- two bounds by the numbers of their items, items
  range : RangeBound ℕ → RangeBound ℕ → List Item → Content
  empty_range : Content
  -- pools, entries
  hstore : Bytes → List HstoreEntry → Content
  -- bit count, bytes
  varbit : ℕ → List ℕ → Content
  point : Point → Content
  box : Box → Content
  path : Bool → List Point → Content
  -- address, mask
  inet : IpAddr → ℕ → Content

-- what a column is to hold, or the first broken rule of the call's own and of the items
abbrev pub held : Content → Result Held Fault
held null = Ok no_value
held (column is k) = then (above (item_at is k)) (λ v. Ok (an_item v))
held (array oid ds is) = then (array_rule ds is) (λ _. Ok (an_array oid ds (values is)))
held (range lower upper is) = then (range_bounds lower upper is) (λ p. Ok (a_range p.0 p.1))
held empty_range = Ok the_empty_range
held (hstore ps es) = then (hstore_entries ps es) (λ xs. Ok (an_hstore xs))
held (varbit bits bytes) = then (varbit_rule bits (length bytes)) (λ _. Ok (a_varbit bits bytes))
held (point p) = Ok (a_point p)
held (box b) = Ok (a_box b)
held (path closed ps) = then (few (length ps)) (λ _. Ok (a_path closed ps))
held (inet a mask) = then (inet_rule a mask) (λ _. Ok (an_inet a mask))
