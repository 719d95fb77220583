-- The book of a sheet: what its columns hold, from the arguments of its calls alone.
use Rattle.std.specs.Prelude.{ℕ, List, [], ◌∷◌, ◌++◌, map, length, Ok, Err, Result}
use Rattle.fault.specs.declared.Fault.{Fault}
use Rattle.content.specs.Calls.{Content, held}
use Rattle.content.specs.Held.{Held, value_of, counted_value}
use Rattle.record.specs.Layout.{Column, record_layout}
use Rattle.sheet.specs.Filing.{placed}
use Rattle.wire.specs.Words.{then}

-- a call by what it was handed: an OID, what is to fill the column, and a buffer by its length
pub record Call : Type 0 where
  pub oid : ℕ
  pub content : Content
  pub room : ℕ

-- the columns in order, each with its OID and what it holds
abbrev pub Book : Type 0
Book = List (ℕ × Held)

-- a column as it is laid out in a record
abbrev pub cell : ℕ × Held → Column
cell c = (c.0, value_of c.1)

abbrev pub cells : Book → List Column
cells b = map cell b

-- the length of the book's own columns laid out
abbrev pub fill_of : Book → ℕ
fill_of b = length (record_layout (cells b))

-- what a call adds, or the first rule that it breaks
abbrev pub outcome : Book → Call → Result Held Fault
outcome b c = then (held c.content) (λ h. then (counted_value (value_of h)) (λ v. then (placed (fill_of b) (length b) c.room (c.oid, v)) (λ _. Ok h)))

-- an accepted call adds a last column; a refused one changes nothing
abbrev pub entered : Book → ℕ → Result Held Fault → Book
entered b oid (Ok h) = b ++ ((oid, h) ∷ [])
entered b oid (Err f) = b

abbrev pub book_after : Book → Call → Book
book_after b c = entered b c.oid (outcome b c)

-- it starts empty
abbrev pub book_from : Book → List Call → Book
book_from b [] = b
book_from b (c ∷ cs) = book_from (book_after b c) cs

abbrev pub book : List Call → Book
book cs = book_from [] cs

-- taken, or refused
abbrev pub answered : Result Held Fault → Result (Unit {0}) Fault
answered (Ok h) = Ok tt
answered (Err f) = Err f
