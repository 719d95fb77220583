-- The worked examples. Bytes are written in hexadecimal.
use Rattle.std.specs.Prelude.{◌≡◌, ℕ, List, [], ◌∷◌, pos, Some, None, Ok, Err}
use Rattle.fault.specs.declared.Rule.TheVariants.{Overrun, Trailing, Mask, Product}
use Rattle.fault.specs.Faults.{fault}
use Rattle.wire.specs.Cursor.{Reads, read_nullable}
use Rattle.wire.specs.Words.{Value}
use Rattle.array.specs.declared.dimension.ArrayDimension.{ArrayDimension}
use Rattle.array.specs.Layout.{array_layout}
use Rattle.array.specs.Recv.{Opened, opened_with, array_recv, read_dimension, at_dimensions, at_values}
use Rattle.inet.specs.declared.address.IpAddr.{IpAddr}
use Rattle.inet.specs.declared.address.IpAddr.TheVariants.{V4}
use Rattle.inet.specs.Layout.{inet_layout}
use Rattle.inet.specs.Recv.{inet, inet_recv}
use Rattle.range.specs.declared.bound.RangeBound.{RangeBound}
use Rattle.range.specs.declared.bound.RangeBound.TheVariants.{Inclusive, Exclusive}
use Rattle.range.specs.Layout.{range_layout}
use Rattle.range.specs.Recv.{range_recv}
use Rattle.varbit.specs.Recv.{varbit_recv}

-- 192.0.2.7
abbrev pub host : IpAddr
host = V4 0xC0000207

-- 02 18 00 04 C0000207
abbrev pub host_24 : List ℕ
host_24 = 0x02 ∷ 0x18 ∷ 0x00 ∷ 0x04 ∷ 0xC0 ∷ 0x00 ∷ 0x02 ∷ 0x07 ∷ []

-- the same with mask 33
abbrev pub host_33 : List ℕ
host_33 = 0x02 ∷ 0x21 ∷ 0x00 ∷ 0x04 ∷ 0xC0 ∷ 0x00 ∷ 0x02 ∷ 0x07 ∷ []

-- an array of OID 23 with one dimension of two elements from 1: 7 and NULL
abbrev pub two : List ArrayDimension
two = record { len = pos 2; lower_bound = pos 1 } ∷ []

abbrev pub seven_null : List Value
seven_null = Some (0x00 ∷ 0x00 ∷ 0x00 ∷ 0x07 ∷ []) ∷ None ∷ []

-- 00000001 00000001 00000017 00000002 00000001 00000004 00000007 FFFFFFFF
abbrev pub seven_null_bytes : List ℕ
seven_null_bytes =
    0x00 ∷ 0x00 ∷ 0x00 ∷ 0x01 ∷ 0x00 ∷ 0x00 ∷ 0x00 ∷ 0x01 ∷ 0x00 ∷ 0x00 ∷ 0x00 ∷ 0x17
    ∷ 0x00 ∷ 0x00 ∷ 0x00 ∷ 0x02 ∷ 0x00 ∷ 0x00 ∷ 0x00 ∷ 0x01
    ∷ 0x00 ∷ 0x00 ∷ 0x00 ∷ 0x04 ∷ 0x00 ∷ 0x00 ∷ 0x00 ∷ 0x07 ∷ 0xFF ∷ 0xFF ∷ 0xFF ∷ 0xFF ∷ []

abbrev pub seven_null_opened : Opened
seven_null_opened = opened_with seven_null_bytes 1 1 23 2

-- two dimensions from 1, the first of 65536
abbrev pub wide : ℕ → ℕ → List ℕ
wide high low =
    0x00 ∷ 0x00 ∷ 0x00 ∷ 0x02 ∷ 0x00 ∷ 0x00 ∷ 0x00 ∷ 0x00 ∷ 0x00 ∷ 0x00 ∷ 0x00 ∷ 0x17
    ∷ 0x00 ∷ 0x01 ∷ 0x00 ∷ 0x00 ∷ 0x00 ∷ 0x00 ∷ 0x00 ∷ 0x01
    ∷ 0x00 ∷ 0x00 ∷ high ∷ low ∷ 0x00 ∷ 0x00 ∷ 0x00 ∷ 0x01 ∷ []

-- ten bits: 0000000A and the bytes behind it
abbrev pub ten_bits : List ℕ → List ℕ
ten_bits bytes = 0x00 ∷ 0x00 ∷ 0x00 ∷ 0x0A ∷ bytes

-- [3, 9)
abbrev pub from_3 : RangeBound Value
from_3 = Inclusive (Some (0x00 ∷ 0x00 ∷ 0x00 ∷ 0x03 ∷ []))

abbrev pub to_9 : RangeBound Value
to_9 = Exclusive (Some (0x00 ∷ 0x00 ∷ 0x00 ∷ 0x09 ∷ []))

-- 02 00000004 00000003 00000004 00000009
abbrev pub from_3_to_9 : List ℕ
from_3_to_9 =
    0x02 ∷ 0x00 ∷ 0x00 ∷ 0x00 ∷ 0x04 ∷ 0x00 ∷ 0x00 ∷ 0x00 ∷ 0x03
    ∷ 0x00 ∷ 0x00 ∷ 0x00 ∷ 0x04 ∷ 0x00 ∷ 0x00 ∷ 0x00 ∷ 0x09 ∷ []

pub record Specimens : Type 0 where
  pub inet_written : inet_layout host 24 ≡ host_24
  pub inet_read : inet_recv host_24 ≡ Ok (inet host 24)
  pub inet_mask : inet_recv host_33 ≡ Err (fault Mask 1)
  pub array_written : array_layout two 23 seven_null ≡ seven_null_bytes
  pub array_opened : array_recv seven_null_bytes ≡ Ok seven_null_opened
  pub array_dimensions : Reads read_dimension (at_dimensions seven_null_opened) two
  pub array_values : Reads read_nullable (at_values seven_null_opened) seven_null
  -- 65536 times 32767 elements open, 65536 times 32768 do not
  pub product_fits : array_recv (wide 0x7F 0xFF) ≡ Ok (opened_with (wide 0x7F 0xFF) 2 0 23 2147418112)
  pub product_past : array_recv (wide 0x80 0x00) ≡ Err (fault Product 20)
  -- ten bits have two bytes, no fewer and no more
  pub varbit_read : varbit_recv (ten_bits (0xA0 ∷ 0x40 ∷ [])) ≡ Ok (10, 0xA0 ∷ 0x40 ∷ [])
  pub varbit_short : varbit_recv (ten_bits (0xA0 ∷ [])) ≡ Err (fault Overrun 0)
  pub varbit_long : varbit_recv (ten_bits (0xA0 ∷ 0x40 ∷ 0x00 ∷ [])) ≡ Err (fault Trailing 6)
  pub range_written : range_layout from_3 to_9 ≡ from_3_to_9
  pub range_read : range_recv from_3_to_9 ≡ Ok (Some (from_3, to_9))
  -- 01 is the empty range, and nothing may follow it
  pub range_empty : range_recv (0x01 ∷ []) ≡ Ok None
  pub range_trailing : range_recv (0x01 ∷ 0x00 ∷ []) ≡ Err (fault Trailing 1)
