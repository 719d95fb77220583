-- Faults: the number of each rule, and how a fault moves up a level.
use Rattle.std.specs.Prelude.{◌≡◌, ℕ, Bool, true, false, refl, ◌+◌, ◌-◌, ◌^◌, min, cond, Some, None, Option, nat_le}
use Rattle.std.specs.Option.{option_map}
use Rattle.std.proofs.lemmas.Bool.{leb-true}
use Rattle.fault.specs.declared.numbers.Foreign.{Foreign}
use Rattle.fault.specs.declared.Fault.{Fault}
use Rattle.fault.specs.declared.Rule.{Rule}
use Rattle.fault.specs.declared.Rule.TheVariants.{Truncated, Overrun, Trailing, Negative, Product, NotText, Mask, Octets, Family, Missing, NoRoom, TooGreat, Dimensions, BitBytes, OutsidePool, TableFull, AbsentKey, Other}

-- the number of every rule
abbrev pub number : Rule → ℕ
number Truncated = 1
number Overrun = 2
number Trailing = 3
number Negative = 4
number Product = 5
number NotText = 6
number Mask = 7
number Octets = 8
number Family = 9
number Missing = 10
number NoRoom = 11
number TooGreat = 12
number Dimensions = 13
number BitBytes = 14
number OutsidePool = 15
number TableFull = 16
number AbsentKey = 17
number (Other f) = f.number

-- another implementation's number is 128 or more
abbrev pub foreign : ℕ → Option ℕ
foreign n = cond (nat_le 128 n) (Some n) None

abbrev pub with_number : (n : ℕ) (b : Bool) → nat_le 128 n ≡ b → Option Foreign
with_number n true e = Some (record { number = n; least = leb-true 128 n e })
with_number n false e = None

abbrev pub foreign_of : ℕ → Option Foreign
foreign_of n = with_number n (nat_le 128 n) refl

abbrev pub told_foreign : Option Foreign → Option ℕ
told_foreign o = option_map (λ f. f.number) o

-- a fault of the call itself
abbrev pub fault : Rule → ℕ → Fault
fault r p = record { rule = r; place = p; level = 0 }

-- one level more, stopping at 255
abbrev pub raise : Fault → Fault
raise f = record { rule = f.rule; place = f.place; level = min (f.level + 1) 255 }

-- seen from the level above, where the bytes begin at `start`; a place stops at the greatest there is
abbrev pub up : ℕ → Fault → Fault
up start f = record { rule = f.rule; place = min (start + f.place) (2 ^ 64 - 1); level = min (f.level + 1) 255 }
