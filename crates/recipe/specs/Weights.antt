-- What the readings of a scale mean, from the readings alone.
use Rattle.std.specs.Prelude.{ℕ, zero, suc, ◌+◌, cond, List, [], ◌∷◌, Some, None, Ok, Err, Option, Result, ◌==◌, nat_le, slice_index_or}
use Rattle.std.proofs.Common.{lit≤}
use Rattle.std.specs.Option.{option_map}
use Rattle.fault.specs.declared.Fault.{Fault}
use Rattle.fault.specs.declared.Rule.TheVariants.{Other}
use Rattle.fault.specs.Faults.{fault}
use Rattle.wire.specs.Items.{Item}
use Rattle.wire.specs.Words.{be}
use Rattle.serializer.specs.Lists.{Short, item_at}

-- the scale overflowed: a fault of this crate's own, number 200, at the ingredient
abbrev pub overflow : ℕ → Fault
overflow k = fault (Other (record { number = 200; least = lit≤ tt })) k

-- grams as a value: none is NULL, any other an int4
abbrev pub int4 : Result (Option ℕ) Fault → Item
int4 (Ok grams) = Ok (option_map (be 4) grams)
int4 (Err f) = Err f

-- what a reading says of ingredient k: 0 that it was not weighed, more than 5000 that the scale
-- overflowed, any other its grams
abbrev pub weighed : ℕ → ℕ → Result (Option ℕ) Fault
weighed k reading = cond (reading == 0) (Ok None) (cond (nat_le reading 5000) (Ok (Some reading)) (Err (overflow k)))

-- the weights of ingredients, the first of them as item k
abbrev pub weights : ℕ → List ℕ → List Item
weights k [] = []
weights k (reading ∷ rest) = int4 (weighed k reading) ∷ weights (k + 1) rest

-- four bytes are short
int4_short : (r : Result (Option ℕ) Fault) → Short (int4 r)
int4_short (Ok (Some grams)) = lit≤ tt
int4_short (Ok None) = tt
int4_short (Err f) = tt

short_from : (first : ℕ) (readings : List ℕ) (k : ℕ) (f : Fault) → Short (slice_index_or (weights first readings) k (Err f))
short_from first [] k f = tt
short_from first (reading ∷ rest) zero f = int4_short (weighed first reading)
short_from first (reading ∷ rest) (suc k) f = short_from (first + 1) rest k f

-- what a serializer owes: no payload is longer than a length word holds
pub weights_short : (readings : List ℕ) (k : ℕ) → Short (item_at (weights 0 readings) k)
weights_short readings k = short_from 0 readings k _
