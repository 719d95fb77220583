-- A run of elements, item by item.
use Rattle.std.proofs.Common.{◌≡◌, ℕ, ◌<◌, ◌≤◌, List, length, get_or, Ok, Err}
use Rattle.std.proofs.lemmas.List.{get_or-map, get_or_past, length-map}
use Rattle.fault.specs.declared.Rule.TheVariants.{Missing}
use Rattle.fault.specs.Faults.{fault}
use Rattle.wire.specs.Words.{Value}
use Rattle.serializer.specs.Lists.{item_at}
use Rattle.serializer.specs.Runs.{run_items}

module _ {X : Type 0} (value : X → Value) (xs : List X) (k : ℕ) where
  pub item_within : (x : X) → k < length xs → item_at (run_items value xs) k ≡ Ok (value (get_or xs k x))
  item_within x h = get_or-map (λ y. Ok (value y)) xs k x (Err (fault Missing k)) h

  pub item_past : length xs ≤ k → item_at (run_items value xs) k ≡ Err (fault Missing k)
  item_past h = get_or_past (run_items value xs) k (Err (fault Missing k)) (simp length-map h)
