-- What an encoder answers and writes.
use Rattle.std.specs.Prelude.{ℕ, ◌+◌, ◌^◌, cond, List, length, ℤ, pos, Ok, Err, Result, nat_le, nat_lt}
use Rattle.fault.specs.declared.Fault.{Fault}
use Rattle.fault.specs.declared.Rule.TheVariants.{NoRoom, TooGreat}
use Rattle.wire.specs.Bytes.{put, over}
use Rattle.fault.specs.Faults.{fault}

-- bytes to write, or a fault
abbrev pub Encoding : Type 0
Encoding = Result (List ℕ) Fault

-- refused where the bytes are more than the part has
abbrev pub room_for : ℕ → Encoding → Encoding
room_for room (Ok ws) = cond (nat_le (length ws) room) (Ok ws) (Err (fault NoRoom 0))
room_for room (Err f) = Err f

-- the answer: the number of bytes
abbrev pub told : Encoding → Result ℕ Fault
told (Ok ws) = Ok (length ws)
told (Err f) = Err f

-- the part after the call: the bytes at its start, or all as it was
abbrev pub laid : Encoding → List ℕ → List ℕ
laid (Ok ws) part = over ws part
laid (Err f) part = part

-- bytes written at a place: the place behind them, or a refusal
abbrev pub told_at : ℕ → List ℕ → List ℕ → Result ℕ Fault
told_at at ws part = cond (nat_le (at + length ws) (length part)) (Ok (at + length ws)) (Err (fault NoRoom 0))

-- the part after it
abbrev pub laid_at : ℕ → List ℕ → List ℕ → List ℕ
laid_at at ws part = cond (nat_le (at + length ws) (length part)) (put at ws part) part

-- a count or a length that a signed word holds
abbrev pub fitted : ℕ → ℕ → Result ℤ Fault
fitted n place = cond (nat_lt n (2 ^ 31)) (Ok (pos n)) (Err (fault TooGreat place))
