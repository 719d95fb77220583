-- The items of a serializer, as a call sees them.
use Rattle.std.proofs.Common.{◌≡◌, List, [], ◌∷◌, map, Ok, Err, refl, ap}
use Rattle.std.specs.Option.{option_map}
use Rattle.fault.specs.Faults.{raise}
use Rattle.serializer.specs.Lists.{values, first_fault}
use Rattle.wire.specs.Items.{Item}
use Rattle.rows.specs.Windows.{above}

-- the values stay, and the first fault is raised
pub values_raised : (is : List Item) → values (map above is) ≡ values is
values_raised [] = refl
values_raised (Ok v ∷ is) = ap (λ vs. v ∷ vs) (values_raised is)
values_raised (Err f ∷ is) = values_raised is

pub fault_raised : (is : List Item) → first_fault (map above is) ≡ option_map raise (first_fault is)
fault_raised [] = refl
fault_raised (Ok v ∷ is) = fault_raised is
fault_raised (Err f ∷ is) = refl
