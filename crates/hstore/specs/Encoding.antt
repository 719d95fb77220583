-- What the encoder of an hstore answers and writes.
use Rattle.std.specs.Prelude.{ℕ, ◌+◌, ◌-◌, ◌^◌, ◌<◌, min, cond, List, [], ◌∷◌, ◌++◌, length, Some, None, Ok, Err, Result, nat_lt}
use Rattle.fault.specs.declared.Fault.{Fault}
use Rattle.fault.specs.declared.Rule.TheVariants.{TooGreat, AbsentKey}
use Rattle.fault.specs.Faults.{fault}
use Rattle.texts.specs.Places.{Place, Bytes, looked_up, place_item}
use Rattle.wire.specs.Encoding.{Encoding}
use Rattle.wire.specs.Items.{nullable}
use Rattle.wire.specs.Words.{Value, then}
use Rattle.hstore.specs.declared.entry.HstoreEntry.{HstoreEntry}
use Rattle.hstore.specs.Layout.{Entry, entry_layout, entries_layout, hstore_layout}

-- a key is there, or is refused at its entry
abbrev pub there : ℕ → Place → Result Unit Fault → Result Unit Fault
there k None on = Err (fault AbsentKey k)
there k (Some s) on = on

-- every key is there; the first of these entries is entry k
abbrev pub keys_there : ℕ → List HstoreEntry → Result Unit Fault
keys_there k [] = Ok tt
keys_there k (e ∷ es) = there k e.key (keys_there (k + 1) es)

-- the text of a key, which is never NULL
abbrev pub key_of : ℕ → Value → Result (List ℕ) Fault
key_of k (Some bs) = Ok bs
key_of k None = Err (fault AbsentKey k)

-- entry k by the texts at its places, key before value; each fault is at the entry
abbrev pub entry_text : Bytes → ℕ → HstoreEntry → Result Entry Fault
entry_text ps k e = then (then (place_item ps k e.key) (key_of k)) (λ key. then (place_item ps k e.value) (λ value. Ok (key, value)))

-- all entries, the first of them as entry k; the first fault comes up
abbrev pub entry_texts : Bytes → ℕ → List HstoreEntry → Result (List Entry) Fault
entry_texts ps k [] = Ok []
entry_texts ps k (e ∷ es) = then (entry_text ps k e) (λ x. then (entry_texts ps (k + 1) es) (λ xs. Ok (x ∷ xs)))

-- an absent key anywhere, then the first fault of a text, then a count that does not fit
abbrev pub hstore_encoding : Bytes → List HstoreEntry → Encoding
hstore_encoding ps es = then (keys_there 0 es) (λ _. then (entry_texts ps 0 es) (λ xs. cond (nat_lt (length es) (2 ^ 31)) (Ok (hstore_layout xs)) (Err (fault TooGreat 0))))

-- the number of bytes that are written, as far as a usize counts
abbrev pub counted : Encoding → Result ℕ Fault
counted (Ok ws) = Ok (min (length ws) (2 ^ 64 - 1))
counted (Err f) = Err f

-- the number of bytes of an entry, and of all entries as far as a usize counts
abbrev pub entry_size : Result Entry Fault → Result ℕ Fault
entry_size r = then r (λ x. Ok (length (entry_layout x)))

abbrev pub entries_size : Result (List Entry) Fault → Result ℕ Fault
entries_size r = then r (λ xs. Ok (min (length (entries_layout xs)) (2 ^ 64 - 1)))

-- what stands at a place: NULL, or the part of its pool
abbrev pub place_value : Bytes → Place → Value
place_value ps None = None
place_value ps (Some s) = looked_up ps s

-- the entries by what stands at their places, each text behind its length word
abbrev pub places_layout : Bytes → HstoreEntry → List ℕ
places_layout ps e = nullable (place_value ps e.key) ++ nullable (place_value ps e.value)

-- a part that is there, and that a length word counts
abbrev pub Counted : Value → Type 0
Counted None = ⊥
Counted (Some bs) = length bs < 2 ^ 31

-- a place that is absent, or names such a part
abbrev pub Named : Bytes → Place → Type 0
Named ps None = Unit {0}
Named ps (Some s) = Counted (looked_up ps s)

abbrev pub EntryNamed : Bytes → HstoreEntry → Type 0
EntryNamed ps e = Named ps e.key × Named ps e.value
