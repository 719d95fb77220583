-- The layout of an hstore (hstore_send).
use Rattle.std.specs.Prelude.{ℕ, List, ◌++◌, length, Some}
use Rattle.std.specs.List.{flat_map}
use Rattle.wire.specs.Items.{nullable}
use Rattle.wire.specs.Words.{Value, be}

-- an entry: its key, and its value, NULL or a text
abbrev pub Entry : Type 0
Entry = List ℕ × Value

-- key and value, each behind its length word
abbrev pub entry_layout : Entry → List ℕ
entry_layout e = nullable (Some e.0) ++ nullable e.1

abbrev pub entries_layout : List Entry → List ℕ
entries_layout es = flat_map entry_layout es

-- the number of entries, then the entries
abbrev pub hstore_layout : List Entry → List ℕ
hstore_layout es = be 4 (length es) ++ entries_layout es
