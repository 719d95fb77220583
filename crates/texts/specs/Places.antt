-- What a texts source means, from its pools and places alone.
use Rattle.std.specs.Prelude.{ℕ, zero, suc, ◌+◌, ◌^◌, cond, List, [], ◌∷◌, length, take, drop, Some, None, Ok, Err, Option, Result, nat_le, nat_lt, slice_index_or}
use Rattle.std.specs.Borrow.{Bor}
use Rattle.std.proofs.Common.{arith}
use Rattle.std.proofs.lemmas.Bool.{ltb-true, cond_both}
use Rattle.std.specs.Option.{option_map}
use Rattle.fault.specs.declared.Fault.{Fault}
use Rattle.fault.specs.declared.Rule.TheVariants.{NotText, TooGreat, OutsidePool}
use Rattle.fault.specs.Faults.{fault}
use Rattle.wire.specs.Items.{Item}
use Rattle.wire.specs.Words.{Value}
use Rattle.text.specs.Recv.{text_recv}
use Rattle.serializer.specs.Lists.{Short, item_at}
use Rattle.texts.specs.declared.place.Pool.{Pool}
use Rattle.texts.specs.declared.place.Pool.TheVariants.{House, Supplier}
use Rattle.texts.specs.declared.place.Span.{Span}
use Rattle.texts.specs.declared.pools.Pools.{Pools}

-- a text's place; an absent one is none
abbrev pub Place : Type 0
Place = Option Span

-- the bytes of the house pool and of the supplier pool
abbrev pub Bytes : Type 0
Bytes = List ℕ × List ℕ

abbrev pub pool_pair : Pools → Bytes
pool_pair p = (p.house.now, p.supplier.now)

abbrev pub pool_bytes : Bytes → Pool → List ℕ
pool_bytes ps House = ps.0
pool_bytes ps Supplier = ps.1

-- the part that a span names, none where it passes its pool
abbrev pub looked_up : Bytes → Span → Value
looked_up ps s = cond (nat_le (s.start + s.length) (length (pool_bytes ps s.pool))) (Some (take s.length (drop s.start (pool_bytes ps s.pool)))) None

abbrev pub seen_part : Option (Bor (List ℕ)) → Value
seen_part o = option_map (λ x. x.now) o

-- a text that was checked, as item k
abbrev pub checked_item : ℕ → Result (List ℕ) Fault → Item
checked_item k (Ok bs) = cond (nat_lt (length bs) (2 ^ 31)) (Ok (Some bs)) (Err (fault TooGreat k))
checked_item k (Err f) = Err (fault NotText k)

-- a part that was looked up, as item k
abbrev pub part_item : ℕ → Value → Item
part_item k (Some bs) = checked_item k (text_recv bs)
part_item k None = Err (fault OutsidePool k)

-- the text at a place, as item k; an absent one is NULL
abbrev pub place_item : Bytes → ℕ → Place → Item
place_item ps k None = Ok None
place_item ps k (Some s) = part_item k (looked_up ps s)

-- the texts at places, the first of them as item k
abbrev pub place_items : Bytes → ℕ → List Place → List Item
place_items ps k [] = []
place_items ps k (p ∷ places) = place_item ps k p ∷ place_items ps (k + 1) places

-- what is no longer than the rule allows is short
checked_short : (k : ℕ) (r : Result (List ℕ) Fault) → Short (checked_item k r)
checked_short k (Ok bs) =
    cond_both (nat_lt (length bs) (2 ^ 31)) (Ok (Some bs)) (Err (fault TooGreat k)) Short (λ e. omega (arith, ltb-true (length bs) (2 ^ 31) e)) (λ e. tt)
checked_short k (Err f) = tt

part_short : (k : ℕ) (v : Value) → Short (part_item k v)
part_short k (Some bs) = checked_short k (text_recv bs)
part_short k None = tt

place_short : (ps : Bytes) (k : ℕ) (p : Place) → Short (place_item ps k p)
place_short ps k None = tt
place_short ps k (Some s) = part_short k (looked_up ps s)

short_from : (ps : Bytes) (first : ℕ) (places : List Place) (k : ℕ) (f : Fault) → Short (slice_index_or (place_items ps first places) k (Err f))
short_from ps first [] k f = tt
short_from ps first (p ∷ places) zero f = place_short ps first p
short_from ps first (p ∷ places) (suc k) f = short_from ps (first + 1) places k f

-- no item's payload is longer than a length word holds
pub places_short : (ps : Bytes) (places : List Place) (k : ℕ) → Short (item_at (place_items ps 0 places) k)
places_short ps places k = short_from ps 0 places k _
