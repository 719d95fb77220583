-- The requests that read and write an hstore.
use Rattle.std.specs.Prelude.{ℕ, cond, List, [], ◌∷◌, ◌++◌, length, Some, None, Ok, Err, codes, Option, Result}
use Rattle.std.specs.Str.{bytes_eq}
use Rattle.answers.specs.Parts.{texts_of, parts_text}
use Rattle.answers.specs.Plain.{answered, refused, wrote, value_text, room}
use Rattle.fault.specs.declared.Fault.{Fault}
use Rattle.hstore.specs.declared.entry.HstoreEntry.{HstoreEntry}
use Rattle.hstore.specs.Encoding.{hstore_encoding}
use Rattle.hstore.specs.Layout.{Entry}
use Rattle.hstore.specs.Recv.{read_entry}
use Rattle.listing.specs.Lists.{list_onto}
use Rattle.syntax.specs.Parsed.{bytes_in, split_at}
use Rattle.syntax.specs.Printed.{byte_string}
use Rattle.texts.specs.Places.{Place}
use Rattle.texts.specs.declared.place.Pool.TheVariants.{House}
use Rattle.wire.specs.Cursor.{State}
use Rattle.wire.specs.Encoding.{room_for}

-- xKEY=xVALUE or xKEY=NULL
abbrev pub entry_text : Entry → List ℕ
entry_text e = byte_string e.0 ++ (61 ∷ value_text e.1)

-- hstore [xKEY=xVALUE,xKEY=NULL,..]
abbrev pub hstore_text : State → List ℕ
hstore_text s = codes "hstore " ++ parts_text (texts_of entry_text read_entry) s

abbrev pub hstore_answer : Result State Fault → List ℕ
hstore_answer (Ok s) = hstore_text s
hstore_answer (Err f) = refused f

-- a text at the end of the house pool, and its place there
abbrev pub bytes_onto : List ℕ → Option (List ℕ) → Option (List ℕ × Place)
bytes_onto house (Some bs) = Some (house ++ bs, Some (record { pool = House; start = length house; length = length bs }))
bytes_onto house None = None

-- NULL is absent, and leaves the pool as it is
abbrev pub text_onto : List ℕ → List ℕ → Option (List ℕ × Place)
text_onto house w = cond (bytes_eq w (codes "NULL")) (Some (house, None)) (bytes_onto house (bytes_in w))

abbrev pub with_value : Place → Option (List ℕ × Place) → Option (List ℕ × HstoreEntry)
with_value key (Some p) = Some (p.0, record { key = key; value = p.1 })
with_value key None = None

-- the value goes behind the key
abbrev pub value_onto : List ℕ → Option (List ℕ × Place) → Option (List ℕ × HstoreEntry)
value_onto value (Some p) = with_value p.1 (text_onto p.0 value)
value_onto value None = None

abbrev pub pair_onto : List ℕ → Option (List ℕ × List ℕ) → Option (List ℕ × HstoreEntry)
pair_onto house (Some p) = value_onto p.1 (text_onto house p.0)
pair_onto house None = None

-- the entry that KEY=VALUE spells, its texts at the end of the house pool
abbrev pub entry_onto : List ℕ → List ℕ → Option (List ℕ × HstoreEntry)
entry_onto house w = pair_onto house (split_at 61 w)

-- a house pool, and entries whose texts lie in it
abbrev pub Entries : Type 0
Entries = List ℕ × List HstoreEntry

abbrev pub and_entry : List HstoreEntry → Option (List ℕ × HstoreEntry) → Option Entries
and_entry es (Some p) = Some (p.0, es ++ (p.1 ∷ []))
and_entry es None = None

-- the entry that a word spells goes behind the others
abbrev pub with_entry : Entries → List ℕ → Option Entries
with_entry p w = and_entry p.1 (entry_onto p.0 w)

-- the entries that [KEY=VALUE,..] spells, with their texts in the order of the list
abbrev pub entries_in : List ℕ → Option Entries
entries_in w = list_onto with_entry ([], []) w

-- what the encoder writes to a part of so many bytes: the supplier pool is empty
abbrev pub written : ℕ → Entries → List ℕ
written n p = wrote (room_for n (hstore_encoding (p.0, []) p.1))

-- [xKEY=xVALUE,xKEY=NULL,NULL=xVALUE,..]
abbrev pub hstore_written : List ℕ → List ℕ
hstore_written argument = answered (written (room (length argument))) (entries_in argument)
