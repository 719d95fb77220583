-- A payload that fits a part, and one that does not.
use Rattle.std.proofs.Common.{◌≡◌, ℕ, ◌<◌, ◌≤◌, List, length, Some, Ok, Err, ap, ◌∙◌}
use Rattle.std.proofs.lemmas.Bool.{cond-true, cond-false, le-leb, lt-leb}
use Rattle.fault.specs.declared.Rule.TheVariants.{NoRoom}
use Rattle.fault.specs.Faults.{fault}
use Rattle.wire.specs.Items.{Item, fitting}

pub item_fits : (room : ℕ) (bs : List ℕ) {i : Item} → i ≡ Ok (Some bs) → length bs ≤ room → fitting room i ≡ Ok (Some bs)
item_fits room bs e h = ap (fitting room) e ∙ cond-true _ _ _ (le-leb _ _ h)

pub item_long : (room : ℕ) (bs : List ℕ) {i : Item} → i ≡ Ok (Some bs) → room < length bs → fitting room i ≡ Err (fault NoRoom 0)
item_long room bs e h = ap (fitting room) e ∙ cond-false _ _ _ (lt-leb _ _ h)
