-- A run of elements as a list of items.
use Rattle.std.specs.Prelude.{ℕ, zero, suc, List, [], ◌∷◌, map, Some, None, Ok, Err, slice_index_or}
use Rattle.std.proofs.Common.{lit≤, le_trans}
use Rattle.fault.specs.declared.Fault.{Fault}
use Rattle.wire.specs.Items.{Item, Within}
use Rattle.wire.specs.Words.{Value}
use Rattle.serializer.specs.Lists.{Short, item_at}

-- each element is an item, and none a fault
abbrev pub run_items : {X : Type 0} → (X → Value) → List X → List Item
run_items value xs = map (λ x. Ok (value x)) xs

-- a payload of 64 bytes is short
wider : (v : Value) → Within 64 (Ok v) → Short (Ok v)
wider None small = tt
wider (Some bs) small = le_trans small (lit≤ tt)

short_at : {X : Type 0} (value : X → Value) (small : (x : X) → Within 64 (Ok (value x))) (xs : List X) (k : ℕ) (f : Fault) → Short (slice_index_or (run_items value xs) k (Err f))
short_at value small [] k f = tt
short_at value small (x ∷ xs) zero f = wider (value x) (small x)
short_at value small (x ∷ xs) (suc k) f = short_at value small xs k f

pub run_short : {X : Type 0} (value : X → Value) → ((x : X) → Within 64 (Ok (value x))) → (xs : List X) (k : ℕ) → Short (item_at (run_items value xs) k)
run_short value small xs k = short_at value small xs k _
