-- What a column holds, as it was handed in and as it is read.
use Rattle.std.specs.Prelude.{ℕ, ◌^◌, Bool, cond, List, length, Some, None, Ok, Err, Result, nat_lt}
use Rattle.fault.specs.declared.Fault.{Fault}
use Rattle.fault.specs.declared.Rule.TheVariants.{TooGreat}
use Rattle.fault.specs.Faults.{fault}
use Rattle.array.specs.declared.dimension.ArrayDimension.{ArrayDimension}
use Rattle.array.specs.Layout.{array_layout}
use Rattle.double.specs.declared.point.Box.{Box}
use Rattle.double.specs.declared.point.Point.{Point}
use Rattle.geometry.specs.Layout.{point_layout, box_layout}
use Rattle.hstore.specs.Layout.{Entry, hstore_layout}
use Rattle.inet.specs.declared.address.IpAddr.{IpAddr}
use Rattle.inet.specs.Layout.{inet_layout}
use Rattle.path.specs.Layout.{path_layout}
use Rattle.range.specs.declared.bound.RangeBound.{RangeBound}
use Rattle.range.specs.Layout.{range_layout, empty_layout}
use Rattle.varbit.specs.Layout.{varbit_layout}
use Rattle.wire.specs.Items.{Item}
use Rattle.wire.specs.Words.{Value}

pub data Held : Type 0 where
  no_value : Held
  an_item : Value → Held
  -- element OID, dimensions and elements
  an_array : ℕ → List ArrayDimension → List Value → Held
  -- the kinds of the two bounds with their items
  a_range : RangeBound Value → RangeBound Value → Held
  the_empty_range : Held
  -- key and value texts
  an_hstore : List Entry → Held
  -- bit count and bytes
  a_varbit : ℕ → List ℕ → Held
  a_point : Point → Held
  a_box : Box → Held
  -- whether it is closed, and its points
  a_path : Bool → List Point → Held
  -- address and mask
  an_inet : IpAddr → ℕ → Held

-- the value of a column: what it holds, laid out by its format
abbrev pub value_of : Held → Value
value_of no_value = None
value_of (an_item v) = v
value_of (an_array oid ds vs) = Some (array_layout ds oid vs)
value_of (a_range l u) = Some (range_layout l u)
value_of the_empty_range = Some empty_layout
value_of (an_hstore es) = Some (hstore_layout es)
value_of (a_varbit n bytes) = Some (varbit_layout n bytes)
value_of (a_point p) = Some (point_layout p)
value_of (a_box b) = Some (box_layout b)
value_of (a_path closed ps) = Some (path_layout closed ps)
value_of (an_inet a mask) = Some (inet_layout a mask)

-- a value that a length word counts
abbrev pub counted_value : Value → Item
counted_value None = Ok None
counted_value (Some ws) = cond (nat_lt (length ws) (2 ^ 31)) (Ok (Some ws)) (Err (fault TooGreat 0))

abbrev pub held_item : Result Held Fault → Item
held_item (Ok h) = counted_value (value_of h)
held_item (Err f) = Err f
