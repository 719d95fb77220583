-- Items: what is behind a length word, or the fault of what should be.
use Rattle.std.specs.Prelude.{ℕ, ◌≤◌, cond, List, ◌++◌, length, negsuc, Some, None, Ok, Err, Option, Result, nat_le}
use Rattle.std.specs.Option.{option_map}
use Rattle.fault.specs.declared.Fault.{Fault}
use Rattle.fault.specs.declared.Rule.TheVariants.{NoRoom}
use Rattle.fault.specs.Faults.{fault}
use Rattle.wire.specs.declared.oid.IsNull.{IsNull}
use Rattle.wire.specs.declared.oid.IsNull.TheVariants.{Yes, No}
use Rattle.wire.specs.Bytes.{over}
use Rattle.wire.specs.Encoding.{Encoding}
use Rattle.wire.specs.Words.{Value, be, int}

-- NULL, a payload or a fault
abbrev pub Item : Type 0
Item = Result Value Fault

-- the length of the payload, none for NULL
abbrev pub size_of : Item → Result (Option ℕ) Fault
size_of (Ok v) = Ok (option_map length v)
size_of (Err f) = Err f

-- whether it is NULL
abbrev pub null_of : Item → Result IsNull Fault
null_of (Ok None) = Ok Yes
null_of (Ok (Some bs)) = Ok No
null_of (Err f) = Err f

-- the item, refused where its payload is longer than the part
abbrev pub fitting : ℕ → Item → Item
fitting room (Ok None) = Ok None
fitting room (Ok (Some bs)) = cond (nat_le (length bs) room) (Ok (Some bs)) (Err (fault NoRoom 0))
fitting room (Err f) = Err f

-- the part with the payload at its start; NULL and a fault change nothing
abbrev pub filled : Item → List ℕ → List ℕ
filled (Ok None) part = part
filled (Ok (Some bs)) part = over bs part
filled (Err f) part = part

-- a value behind its length word: the length and the payload, or -1 for NULL
abbrev pub nullable : Value → List ℕ
nullable None = int (negsuc 0)
nullable (Some bs) = be 4 (length bs) ++ bs

abbrev pub nullable_item : Item → Encoding
nullable_item (Ok v) = Ok (nullable v)
nullable_item (Err f) = Err f

-- a payload of at most so many bytes
abbrev pub Within : ℕ → Item → Type 0
Within most (Ok None) = Unit {0}
Within most (Ok (Some bs)) = length bs ≤ most
Within most (Err f) = Unit {0}
