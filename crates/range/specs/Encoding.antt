-- What the encoder of a range answers and writes.
use Rattle.std.specs.Prelude.{ℕ, List, [], Ok, Err, Result}
use Rattle.fault.specs.declared.Fault.{Fault}
use Rattle.wire.specs.Encoding.{Encoding}
use Rattle.wire.specs.Items.{Item}
use Rattle.wire.specs.Words.{Value, then}
use Rattle.serializer.specs.Lists.{item_at}
use Rattle.range.specs.declared.bound.RangeBound.{RangeBound}
use Rattle.range.specs.declared.bound.RangeBound.TheVariants.{Inclusive, Exclusive, Unbounded}
use Rattle.range.specs.Layout.{bound, range_layout}

-- a bound by its item's number, with the item; the item's fault comes up as it is
abbrev pub bound_item : List Item → RangeBound ℕ → Result (RangeBound Value) Fault
bound_item is (Inclusive k) = then (item_at is k) (λ v. Ok (Inclusive v))
bound_item is (Exclusive k) = then (item_at is k) (λ v. Ok (Exclusive v))
bound_item is Unbounded = Ok Unbounded

-- the bytes to write, none for a fault
abbrev pub bytes : Encoding → List ℕ
bytes (Ok ws) = ws
bytes (Err f) = []

-- a bound's bytes
abbrev pub bound_encoding : List Item → RangeBound ℕ → Encoding
bound_encoding is b = then (bound_item is b) (λ v. Ok (bound v))

-- lower before upper
abbrev pub range_encoding : List Item → RangeBound ℕ → RangeBound ℕ → Encoding
range_encoding is lower upper = then (bound_item is lower) (λ l. then (bound_item is upper) (λ u. Ok (range_layout l u)))
