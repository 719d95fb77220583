-- A pile of validators over what a pile of serializers writes.
use Rattle.std.specs.Prelude.{◌≡◌, ℕ, List, map, Some, None, Ok, Err, Option, Result}
use Rattle.std.specs.List.{AllByRecursion}
use Rattle.serializer.specs.Lists.{Short, item_at}
use Rattle.fault.specs.declared.Fault.{Fault}
use Rattle.wire.specs.Items.{Item}
use Rattle.validator.specs.Verdicts.{Outcome, Verdict}
use Rattle.pile.specs.Piles.{Rows, Typed, layer_of, pile_items, pile_verdict}

-- the payload of an item is accepted; NULL and a fault have none
abbrev pub Accepts : Verdict → Item → Type 0
Accepts v (Ok None) = Unit {0}
Accepts v (Ok (Some bs)) = v bs ≡ Ok tt
Accepts v (Err f) = Unit {0}

-- every payload of a list is accepted
abbrev pub AcceptsAll : Verdict → List Item → Type 0
AcceptsAll v is = (k : ℕ) → Accepts v (item_at is k)

-- items and a verdict are those of a pile of serializers and a pile of validators with the same layers in the same order, and the bottom of the one accepts every payload of the other's
pub record Matching (items : List Item) (v : Verdict) : Type 0 where
  pub layers : List Rows
  pub typed : AllByRecursion Typed layers
  pub bottom : List Item
  pub below : Verdict
  pub writes : items ≡ pile_items layers bottom
  pub short : (k : ℕ) → Short (item_at bottom k)
  pub judges : (bs : List ℕ) → v bs ≡ pile_verdict (map layer_of layers) below bs
  pub accepts : AcceptsAll below bottom

-- what is said of an item that is written, none for NULL
abbrev pub judged : Verdict → Item → Result (Option Outcome) Fault
judged v (Ok None) = Ok None
judged v (Ok (Some bs)) = Ok (Some (v bs))
judged v (Err f) = Err f

-- what was written was accepted
abbrev pub NotRefused : Result (Option Outcome) Fault → Type 0
NotRefused (Ok None) = Unit {0}
NotRefused (Ok (Some o)) = o ≡ Ok tt
NotRefused (Err f) = Unit {0}
