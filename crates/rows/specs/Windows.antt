-- Some items of a serializer, as the layer above sees them.
use Rattle.std.specs.Prelude.{ℕ, zero, suc, ◌+◌, cond, List, [], ◌∷◌, Some, None, Ok, Err, Result, nat_lt, slice_index_or}
use Rattle.fault.specs.declared.Fault.{Fault}
use Rattle.fault.specs.declared.Rule.TheVariants.{Missing}
use Rattle.fault.specs.Faults.{fault, raise}
use Rattle.serializer.specs.Lists.{Short, item_at}
use Rattle.wire.specs.Items.{Item}

-- an item, or another result, seen from above: a fault keeps its place, one level further down
abbrev pub above : {X : Type 0} → Result X Fault → Result X Fault
above (Ok x) = Ok x
above (Err f) = Err (raise f)

-- n items from the first on; one that is not there is a fault at its number
abbrev pub window : List Item → ℕ → ℕ → List Item
window is first zero = []
window is first (suc n) = above (item_at is first) ∷ window is (first + 1) n

-- the number below of item k
abbrev pub number_at : ℕ → ℕ → ℕ → Result ℕ Fault
number_at first count k = cond (nat_lt k count) (Ok (first + k)) (Err (fault Missing k))

pub above_short : (i : Item) → Short i → Short (above i)
above_short (Ok None) h = h
above_short (Ok (Some bs)) h = h
above_short (Err f) h = tt

short_from : (is : List Item) → ((k : ℕ) → Short (item_at is k)) → (first count k : ℕ) (f : Fault) → Short (slice_index_or (window is first count) k (Err f))
short_from is short first zero k f = tt
short_from is short first (suc n) zero f = above_short (item_at is first) (short first)
short_from is short first (suc n) (suc k) f = short_from is short (first + 1) n k f

pub window_short : (is : List Item) → ((k : ℕ) → Short (item_at is k)) → (first count k : ℕ) → Short (item_at (window is first count) k)
window_short is short first count k = short_from is short first count k _
