-- What a serializer means: a list of items.
use Rattle.std.specs.Prelude.{ℕ, List, [], ◌∷◌, Some, None, Ok, Err, Option, Result, slice_index_or}
use Rattle.std.specs.List.{flat_map}
use Rattle.fault.specs.declared.Fault.{Fault}
use Rattle.fault.specs.declared.Rule.TheVariants.{Missing}
use Rattle.fault.specs.Faults.{fault}
use Rattle.wire.specs.Items.{Item, Within}
use Rattle.wire.specs.Words.{Value}

-- item k: past the end it is missing
abbrev pub item_at : List Item → ℕ → Item
item_at is k = slice_index_or is k (Err (fault Missing k))

-- a length word holds the length of a payload
abbrev pub Short : Item → Type 0
Short i = Within 2147483647 i

-- the values among items
abbrev pub kept : Item → List Value
kept (Ok v) = v ∷ []
kept (Err f) = []

abbrev pub values : List Item → List Value
values is = flat_map kept is

-- the first fault among items
abbrev pub first_fault : List Item → Option Fault
first_fault [] = None
first_fault (Ok v ∷ is) = first_fault is
first_fault (Err f ∷ is) = Some f

-- a fault, if there is one, comes first
abbrev pub refused_or : {X : Type 0} → Option Fault → Result X Fault → Result X Fault
refused_or None r = r
refused_or (Some f) r = Err f
