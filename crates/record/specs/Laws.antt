-- What ties the layout of a record to opening and reading it.
use Rattle.std.specs.Prelude.{◌≡◌, ℕ, ◌^◌, ◌<◌, List, ◌++◌, length, Ok}
use Rattle.wire.specs.Cursor.{State, Reads, Row, Nullable}
use Rattle.wire.specs.Words.{be}
use Rattle.record.specs.Layout.{Column}
use Rattle.record.specs.Recv.{record_recv, read_column}

-- the bytes of a column: its OID, then its value, with any negative length for NULL
pub record ColumnForm (c : Column) (bs : List ℕ) : Type 0 where
  pub typed : c.0 < 2 ^ 32
  pub last : List ℕ
  pub value_form : Nullable c.1 last
  pub whole : bs ≡ be 4 c.0 ++ last

-- the bytes of a record: the number of columns, then their forms
pub record Form (cs : List Column) (bs : List ℕ) : Type 0 where
  pub few : length cs < 2 ^ 31
  pub last : List ℕ
  pub whole : bs ≡ be 4 (length cs) ++ last
  pub row : Row ColumnForm cs last

-- opening and reading to the end gives these columns
pub record Opens (bs : List ℕ) (cs : List Column) : Type 0 where
  pub start : State
  pub opens : record_recv bs ≡ Ok start
  pub items : Reads read_column start cs

-- the bytes of a record are opened and read to the end as its columns
abbrev pub ReadsBack : List ℕ → Type 0
ReadsBack bs = (cs : List Column) → Form cs bs → Opens bs cs

-- bytes that are opened and read to the end are those of a record
abbrev pub OnlyForms : List ℕ → Type 0
OnlyForms bs = (cs : List Column) → Opens bs cs → Form cs bs
