-- What a call does to a sheet and its buffer.
use Rattle.std.specs.Prelude.{◌≡◌, ℕ, ◌+◌, ◌^◌, cond, List, length, take, Ok, Err, Result, nat_le, nat_lt}
use Rattle.fault.specs.declared.Fault.{Fault}
use Rattle.fault.specs.declared.Rule.TheVariants.{NoRoom, TooGreat}
use Rattle.fault.specs.Faults.{fault}
use Rattle.content.specs.Calls.{Content, held}
use Rattle.content.specs.Held.{held_item}
use Rattle.record.specs.Layout.{Column, column_layout}
use Rattle.wire.specs.Bytes.{put}
use Rattle.wire.specs.Encoding.{Encoding}
use Rattle.wire.specs.Items.{Item}
use Rattle.wire.specs.Words.{be, then}
use Rattle.sheet.specs.declared.sheet.Sheet.{Sheet}

abbrev pub sheet : ℕ → ℕ → Sheet
sheet fill columns = record { fill = fill; columns = columns }

-- the bytes of a sheet: those of its buffer below the fill
abbrev pub sheet_bytes : Sheet → List ℕ → List ℕ
sheet_bytes s b = take s.fill b

-- a blank sheet: no column, four zero bytes
abbrev pub blank_bytes : List ℕ
blank_bytes = be 4 0

abbrev pub told_blank : ℕ → Result Sheet Fault
told_blank room = cond (nat_le 4 room) (Ok (sheet 4 0)) (Err (fault NoRoom 0))

-- the rules that all calls share: a column count that fits, then room behind the fill
abbrev pub placed : ℕ → ℕ → ℕ → Column → Encoding
placed fill columns room c =
    cond (nat_lt (columns + 1) (2 ^ 31))
    (cond (nat_le (fill + length (column_layout c)) room) (Ok (column_layout c)) (Err (fault NoRoom 0)))
    (Err (fault TooGreat 0))

-- the bytes of the column that is appended, or the first broken rule
abbrev pub filing : Sheet → ℕ → ℕ → Item → Encoding
filing s room oid i = then i (λ v. placed s.fill s.columns room (oid, v))

abbrev pub told_filed : Encoding → Result (Unit {0}) Fault
told_filed (Ok ws) = Ok tt
told_filed (Err f) = Err f

-- the sheet after it: one column more, or as it was
abbrev pub sheet_after : Sheet → Encoding → Sheet
sheet_after s (Ok ws) = sheet (s.fill + length ws) (s.columns + 1)
sheet_after s (Err f) = s

-- the buffer after it: the column behind the fill, then the new count in the first word; or as it was
abbrev pub bytes_after : Sheet → List ℕ → Encoding → List ℕ
bytes_after s b (Ok ws) = put 0 (be 4 (s.columns + 1)) (put s.fill ws b)
bytes_after s b (Err f) = b

-- an item is filed under an OID: the answer, the sheet and every byte of the buffer
pub record Files (s : Sheet) (b : List ℕ) (oid : ℕ) (i : Item) (r : Result (Unit {0}) Fault) (t : Sheet) (d : List ℕ) : Type 0 where
  pub answer : r ≡ told_filed (filing s (length b) oid i)
  pub after : t ≡ sheet_after s (filing s (length b) oid i)
  pub bytes : d ≡ bytes_after s b (filing s (length b) oid i)

-- what a call does: it files what its content holds by the rules
abbrev pub Did : Sheet → List ℕ → ℕ → Content → Result (Unit {0}) Fault → Sheet → List ℕ → Type 0
Did s b oid c r t d = Files s b oid (held_item (held c)) r t d
