-- The cursor, as what it stands for.
use Rattle.std.specs.Prelude.{ℕ, Some, Ok, Err, Option, Result}
use Rattle.std.specs.Option.{option_map}
use Rattle.fault.specs.declared.Fault.{Fault}
use Rattle.wire.specs.declared.cursor.Cursor.{Cursor}
use Rattle.wire.specs.Cursor.{State, Answer}

abbrev pub state : {P : Type 0} → Cursor P → State
state c = record { bytes = c.buf.now; place = c.at; left = c.left; met = c.fault }

-- a part that was read, as what it stands for, with its number of bytes
abbrev pub told_part : {I X : Type 0} → (I → X) → Result (I × ℕ) Fault → Result (X × ℕ) Fault
told_part seen (Ok p) = Ok (seen p.0, p.1)
told_part seen (Err f) = Err f

-- what a step answered, as what it stands for
abbrev pub told_next : {I X : Type 0} → (I → X) → Result (Option I) Fault → Answer X
told_next seen (Ok o) = Ok (option_map seen o)
told_next seen (Err f) = Err f

-- the cursor stays where it is, with a fault
abbrev pub meeting : Fault → State → State
meeting f s = record { bytes = s.bytes; place = s.place; left = s.left; met = Some f }

-- a value that is opened as a cursor
abbrev pub told_opened : {P : Type 0} → Result (Cursor P) Fault → Result State Fault
told_opened (Ok c) = Ok (state c)
told_opened (Err f) = Err f
