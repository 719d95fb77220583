-- Reading an hstore (hstore_recv): its count, then its entries.
use Rattle.std.specs.Prelude.{ℕ, ◌+◌, List, length, Some, None, Ok, Err, Result}
use Rattle.fault.specs.declared.Fault.{Fault}
use Rattle.fault.specs.declared.Rule.TheVariants.{Negative}
use Rattle.fault.specs.Faults.{fault}
use Rattle.text.specs.Recv.{text_recv}
use Rattle.wire.specs.Cursor.{State, Reader, before}
use Rattle.wire.specs.Words.{Value, then, count_at, value_at}
use Rattle.hstore.specs.Layout.{Entry, entry_layout}

-- a text that begins at a place: a bad character is told by its place in the whole value
abbrev pub placed : ℕ → Result (List ℕ) Fault → Result (List ℕ) Fault
placed start (Ok t) = Ok t
placed start (Err f) = Err (fault f.rule (start + f.place))

abbrev pub text_at : ℕ → List ℕ → Result (List ℕ) Fault
text_at start bs = placed start (text_recv bs)

-- the key behind the length word at a place: a negative length is refused there
abbrev pub key_in : ℕ → Value → Result (List ℕ) Fault
key_in at None = Err (fault Negative at)
key_in at (Some bs) = text_at (at + 4) bs

abbrev pub key_at : List ℕ → ℕ → Result (List ℕ) Fault
key_at bs at = then (value_at bs at) (key_in at)

-- the value behind the length word at a place: any negative length is NULL
abbrev pub value_in : ℕ → Value → Result Value Fault
value_in at None = Ok None
value_in at (Some bs) = then (text_at (at + 4) bs) (λ t. Ok (Some t))

abbrev pub entry_value_at : List ℕ → ℕ → Result Value Fault
entry_value_at bs at = then (value_at bs at) (value_in at)

-- an entry and its number of bytes: the key is checked before the value's length is read
abbrev pub read_entry : Reader Entry
read_entry bs at = then (key_at bs at) (λ key. then (entry_value_at bs (at + 4 + length key)) (λ value. Ok ((key, value), length (entry_layout (key, value)))))

-- a cursor before the first entry
abbrev pub hstore_recv : List ℕ → Result State Fault
hstore_recv bs = then (count_at bs 0) (λ n. Ok (before bs 4 n))
