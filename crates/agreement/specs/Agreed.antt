-- One result for everyone: what holds after every life of a sheet.
use Rattle.std.specs.Prelude.{◌≡◌, ℕ, ◌↔◌, List, [], ◌∷◌}
use Rattle.std.specs.List.{AllByRecursion}
use Rattle.pile.specs.Back.{ReadsBack}
use Rattle.pile.specs.Match.{AcceptsAll, Matching}
use Rattle.pile.specs.Piles.{ReadsExactly}
use Rattle.sheet.specs.declared.sheet.Sheet.{Sheet}
use Rattle.sheet.specs.Filing.{sheet_bytes}
use Rattle.validator.specs.Verdicts.{Verdict}
use Rattle.wire.specs.Items.{Item}
use Rattle.agreement.specs.Book.{Book, outcome, answered, book_after, book}
use Rattle.agreement.specs.Reading.{SheetReads, SameKinds}
use Rattle.agreement.specs.Runs.{Done, Filed, Typed, calls}

-- each call was taken or refused just as the rules say of the book before it
abbrev pub ByTheRules : Book → List Done → Type 0
ByTheRules b [] = Unit {0}
ByTheRules b (d ∷ ds) = (d.1 ≡ answered (outcome b d.0)) × ByTheRules (book_after b d.0) ds

-- after every list of calls on a blank sheet: each was answered by the rules, and reading gives exactly the columns of the book
pub record KeptBook (cs : List Done) (s : Sheet) (b : List ℕ) : Type 0 where
  pub answers : ByTheRules [] cs
  pub reads : SheetReads (sheet_bytes s b) (book (calls cs))

abbrev pub BookKept : Sheet → List ℕ → Type 0
BookKept s b = (cs : List Done) → AllByRecursion Typed cs → Filed cs s b → KeptBook cs s b

-- two sheets that took the same kinds in the same order hold equal bytes exactly when their books are equal
abbrev pub EqualBytes : Sheet → List ℕ → Sheet → List ℕ → Type 0
EqualBytes s b t d = (cs ds : List Done) → AllByRecursion Typed cs → AllByRecursion Typed ds → Filed cs s b → Filed ds t d → SameKinds (book (calls cs)) (book (calls ds)) → (sheet_bytes s b ≡ sheet_bytes t d) ↔ (book (calls cs) ≡ book (calls ds))

-- the statement about piles, for a serializer by its items and a validator by its verdict: what the validator says is what reading to the end at every level meets; where the two are matching piles, every payload is accepted; and what a pile writes reads back as its rows, down to the items of its bottom
pub record Piles (items : List Item) (v : Verdict) : Type 0 where
  pub reads : (bs : List ℕ) → ReadsExactly v bs
  pub accepts : Matching items v → AcceptsAll v items
  pub back : (k : ℕ) → ReadsBack items k

-- all of it together: two sheets with their buffers, a serializer and a validator
pub record OneResult (s : Sheet) (b : List ℕ) (t : Sheet) (d : List ℕ) (items : List Item) (v : Verdict) : Type 0 where
  pub ours : BookKept s b
  pub theirs : BookKept t d
  pub equal : EqualBytes s b t d
  pub piles : Piles items v
