-- Reading a record (record_recv): its count, then its columns.
use Rattle.std.specs.Prelude.{ℕ, ◌+◌, List, length, Ok, Result}
use Rattle.fault.specs.declared.Fault.{Fault}
use Rattle.wire.specs.Cursor.{State, Reader, before}
use Rattle.wire.specs.Words.{then, u32_at, count_at, value_at}
use Rattle.record.specs.Layout.{Column, column_layout}

-- a column and its number of bytes
abbrev pub read_column : Reader Column
read_column bs at = then (u32_at bs at) (λ oid. then (value_at bs (at + 4)) (λ value. Ok ((oid, value), length (column_layout (oid, value)))))

-- a cursor before the first column
abbrev pub record_recv : List ℕ → Result State Fault
record_recv bs = then (count_at bs 0) (λ n. Ok (before bs 4 n))
