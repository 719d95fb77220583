-- The layout of a record (record_send).
use Rattle.std.specs.Prelude.{ℕ, List, ◌++◌, length}
use Rattle.std.specs.List.{flat_map}
use Rattle.wire.specs.Items.{nullable}
use Rattle.wire.specs.Words.{Value, be}

-- a column: its OID and its value
abbrev pub Column : Type 0
Column = ℕ × Value

-- the OID, then the value behind its length word
abbrev pub column_layout : Column → List ℕ
column_layout c = be 4 c.0 ++ nullable c.1

abbrev pub columns_layout : List Column → List ℕ
columns_layout cs = flat_map column_layout cs

-- the number of columns, then the columns
abbrev pub record_layout : List Column → List ℕ
record_layout cs = be 4 (length cs) ++ columns_layout cs
