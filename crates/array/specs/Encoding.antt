-- What the encoder of an array answers and writes.
use Rattle.std.specs.Prelude.{ℕ, ◌-◌, ◌^◌, min, cond, List, length, Ok, Err, Result, nat_lt}
use Rattle.fault.specs.declared.Fault.{Fault}
use Rattle.fault.specs.declared.Rule.TheVariants.{TooGreat}
use Rattle.fault.specs.Faults.{fault}
use Rattle.wire.specs.Encoding.{Encoding}
use Rattle.wire.specs.Items.{Item}
use Rattle.serializer.specs.Lists.{values, first_fault, refused_or}
use Rattle.array.specs.declared.dimension.ArrayDimension.{ArrayDimension}
use Rattle.array.specs.declared.write.Extent.{Extent}
use Rattle.array.specs.Layout.{elements, has_null, array_layout}

-- the first item fault as it is, then a dimension count that does not fit
abbrev pub array_encoding : List ArrayDimension → ℕ → List Item → Encoding
array_encoding ds oid is = refused_or (first_fault is) (cond (nat_lt (length ds) (2 ^ 31)) (Ok (array_layout ds oid (values is))) (Err (fault TooGreat 0)))

-- what sizes alone tell: the bytes of all elements, as far as a usize counts, and whether one is NULL
abbrev pub extent_of : List Item → Extent
extent_of is = record { bytes = min (length (elements (values is))) (2 ^ 64 - 1); nulls = has_null (values is) }

abbrev pub extent : List Item → Result Extent Fault
extent is = refused_or (first_fault is) (Ok (extent_of is))

-- the number of bytes to write, as far as a usize counts
abbrev pub counted : Encoding → Result ℕ Fault
counted (Ok ws) = Ok (min (length ws) (2 ^ 64 - 1))
counted (Err f) = Err f
