-- How a request spells an item: NULL, a byte string, or ! and a fault of another implementation.
use Rattle.std.specs.Prelude.{ℕ, ◌-◌, ◌^◌, cond, List, [], ◌∷◌, Some, None, Ok, Err, codes, Option, ◌==◌}
use Rattle.std.specs.Option.{option_map}
use Rattle.std.specs.Str.{bytes_eq}
use Rattle.fault.specs.declared.Fault.{Fault}
use Rattle.fault.specs.declared.Rule.TheVariants.{Other}
use Rattle.fault.specs.Faults.{foreign_of}
use Rattle.syntax.specs.Parsed.{bytes_in, number_in, split_at}
use Rattle.wire.specs.Items.{Item}
use Rattle.items.specs.Slots.{counted}

abbrev pub foreign_fault : Option ℕ → Option ℕ → Option ℕ → Option Fault
foreign_fault (Some n) (Some place) (Some level) = option_map (λ f. record { rule = Other f; place = place; level = level }) (foreign_of n)
foreign_fault (Some n) (Some place) None = None
foreign_fault (Some n) None level = None
foreign_fault None place level = None

abbrev pub placed_in : List ℕ → Option (List ℕ × List ℕ) → Option Fault
placed_in number (Some q) = foreign_fault (number_in 255 number) (number_in (2 ^ 64 - 1) q.0) (number_in 255 q.1)
placed_in number None = None

abbrev pub numbered_in : Option (List ℕ × List ℕ) → Option Fault
numbered_in (Some p) = placed_in p.0 (split_at 47 p.1)
numbered_in None = None

-- NUMBER@PLACE/LEVEL, the number from 128 to 255
abbrev pub fault_in : List ℕ → Option Fault
fault_in w = numbered_in (split_at 64 w)

abbrev pub marked_in : List ℕ → Option Item
marked_in [] = None
marked_in (c ∷ cs) = cond (c == 33) (option_map Err (fault_in cs)) (option_map counted (bytes_in (c ∷ cs)))

abbrev pub item_in : List ℕ → Option Item
item_in w = cond (bytes_eq w (codes "NULL")) (Some (Ok None)) (marked_in w)
