-- What ties writing, opening and reading an hstore together.
use Rattle.std.specs.Prelude.{◌≡◌, ℕ, ◌+◌, ◌^◌, ◌<◌, List, ◌++◌, length, Some, None, Ok}
use Rattle.std.specs.List.{AllByRecursion}
use Rattle.text.specs.Utf8.{Text}
use Rattle.texts.specs.Places.{Bytes}
use Rattle.wire.specs.Cursor.{State, Reads, Row, Nullable}
use Rattle.wire.specs.Items.{nullable}
use Rattle.wire.specs.Words.{Value, be}
use Rattle.hstore.specs.declared.entry.HstoreEntry.{HstoreEntry}
use Rattle.hstore.specs.Encoding.{entry_texts}
use Rattle.hstore.specs.Layout.{Entry, hstore_layout}
use Rattle.hstore.specs.Recv.{hstore_recv, read_entry}

-- NULL, or a text
abbrev pub TextValue : Value → Type 0
TextValue None = Unit {0}
TextValue (Some bs) = Text bs

-- the bytes of an entry: a key that is text behind its length, then a value that is NULL, with any negative length, or text
pub record EntryForm (e : Entry) (bs : List ℕ) : Type 0 where
  pub short : length e.0 < 2 ^ 31
  pub key_text : Text e.0
  pub value_text : TextValue e.1
  pub last : List ℕ
  pub value_form : Nullable e.1 last
  pub whole : bs ≡ (be 4 (length e.0) ++ e.0) ++ last

-- the bytes of an hstore: the number of entries, then their forms
pub record Form (es : List Entry) (bs : List ℕ) : Type 0 where
  pub few : length es < 2 ^ 31
  pub last : List ℕ
  pub whole : bs ≡ be 4 (length es) ++ last
  pub row : Row EntryForm es last

-- opening and reading to the end gives these entries
pub record Opens (bs : List ℕ) (es : List Entry) : Type 0 where
  pub start : State
  pub opens : hstore_recv bs ≡ Ok start
  pub items : Reads read_entry start es

-- the bytes of an hstore are opened and read to the end as its entries
abbrev pub ReadsBack : List ℕ → Type 0
ReadsBack bs = (es : List Entry) → Form es bs → Opens bs es

-- bytes that are opened and read to the end are those of an hstore
abbrev pub OnlyForms : List ℕ → Type 0
OnlyForms bs = (es : List Entry) → Opens bs es → Form es bs

-- what was written for entries is opened and read to the end as their texts, absent values as NULL
abbrev pub WrittenBack : Bytes → List HstoreEntry → Type 0
WrittenBack ps hs = (es : List Entry) → entry_texts ps 0 hs ≡ Ok es → length hs < 2 ^ 31 → Opens (hstore_layout es) es

-- texts that length words count
pub record Writable (e : Entry) : Type 0 where
  pub key_short : length e.0 < 2 ^ 31
  pub value_short : length (nullable e.1) < 2 ^ 31 + 4

-- no other list of entries has the bytes that were written for these
abbrev pub Distinct : Bytes → List HstoreEntry → Type 0
Distinct ps hs = (es : List Entry) → entry_texts ps 0 hs ≡ Ok es → length hs < 2 ^ 31 → (fs : List Entry) → length fs < 2 ^ 31 → AllByRecursion Writable fs → hstore_layout fs ≡ hstore_layout es → fs ≡ es
