-- What the items of a request mean.
use Rattle.std.specs.Prelude.{ℕ, zero, suc, ◌^◌, cond, List, [], ◌∷◌, map, length, Some, None, Ok, Err, Option, Result, Vec, vec_items, nat_lt, slice_index_or}
use Rattle.std.proofs.Common.{arith}
use Rattle.std.specs.declared.alloc.Global.{Global}
use Rattle.std.proofs.lemmas.Bool.{ltb-true, cond_both}
use Rattle.fault.specs.declared.Fault.{Fault}
use Rattle.fault.specs.declared.Rule.TheVariants.{TooGreat}
use Rattle.fault.specs.Faults.{fault}
use Rattle.serializer.specs.Lists.{Short, item_at}
use Rattle.wire.specs.Items.{Item}

-- a payload that a length word counts
abbrev pub counted : List ℕ → Item
counted bs = cond (nat_lt (length bs) (2 ^ 31)) (Ok (Some bs)) (Err (fault TooGreat 0))

-- what a word spells: NULL, a payload, or a fault of another implementation
abbrev pub Slot : Type 0
Slot = Result (Option (Vec ℕ Global)) Fault

abbrev pub slot_item : Slot → Item
slot_item (Ok None) = Ok None
slot_item (Ok (Some v)) = counted (vec_items v)
slot_item (Err f) = Err f

slot_short : (s : Slot) → Short (slot_item s)
slot_short (Ok None) = tt
slot_short (Ok (Some v)) =
    cond_both (nat_lt (length (vec_items v)) (2 ^ 31)) (Ok (Some (vec_items v))) (Err (fault TooGreat 0)) Short (λ e. omega (arith, ltb-true (length (vec_items v)) (2 ^ 31) e)) (λ e. tt)
slot_short (Err f) = tt

short_at : (ss : List Slot) (k : ℕ) (f : Fault) → Short (slice_index_or (map slot_item ss) k (Err f))
short_at [] k f = tt
short_at (s ∷ ss) zero f = slot_short s
short_at (s ∷ ss) (suc k) f = short_at ss k f

-- no item's payload is longer than a length word holds
pub slots_short : (ss : List Slot) (k : ℕ) → Short (item_at (map slot_item ss) k)
slots_short ss k = short_at ss k _
