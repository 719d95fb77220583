-- What validators answer: reading to the end, with each payload handed down.
use Rattle.std.specs.Prelude.{ℕ, zero, suc, ◌+◌, ◌≤◌, List, length, Some, None, Ok, Err, Result}
use Rattle.fault.specs.declared.Fault.{Fault}
use Rattle.fault.specs.Faults.{up}
use Rattle.wire.specs.Cursor.{State, Reader, Answer, step, read_nullable}
use Rattle.wire.specs.Words.{Value, then}
use Rattle.array.specs.Recv.{array_recv, at_values}
use Rattle.range.specs.declared.bound.RangeBound.{RangeBound}
use Rattle.range.specs.declared.bound.RangeBound.TheVariants.{Inclusive, Exclusive, Unbounded}
use Rattle.range.specs.Layout.{bound}
use Rattle.range.specs.Recv.{Content, range_recv}

-- accepted, or one fault
abbrev pub Outcome : Type 0
Outcome = Result (Unit {0}) Fault

-- what a validator means
abbrev pub Verdict : Type 0
Verdict = List ℕ → Outcome

-- the place of a fault is at most the length of the bytes
abbrev pub Within : List ℕ → Outcome → Type 0
Within bs (Ok u) = Unit {0}
Within bs (Err f) = f.place ≤ length bs

-- a fault from below, whose bytes begin at `start`
abbrev pub from_below : ℕ → Outcome → Outcome
from_below start (Ok u) = Ok tt
from_below start (Err f) = Err (up start f)

-- a value whose length word stands at a place: its payload, behind that word, is handed down; NULL is not
abbrev pub handed : Verdict → ℕ → Value → Outcome
handed below at None = Ok tt
handed below at (Some p) = from_below (at + 4) (below p)

-- what one step of a cursor gave at a place; `visit` is what becomes of a part, and `rest` of what follows
abbrev pub stepped : {X : Type 0} → (ℕ → X → Outcome) → ℕ → Answer X → Outcome → Outcome
stepped visit at (Ok None) rest = Ok tt
stepped visit at (Ok (Some x)) rest = then (visit at x) (λ _. rest)
stepped visit at (Err f) rest = Err f

-- at most n steps
abbrev pub steps : {X : Type 0} → Reader X → (ℕ → X → Outcome) → ℕ → State → Outcome
steps read visit zero s = Ok tt
steps read visit (suc n) s = stepped visit s.place (step read s).0 (steps read visit n (step read s).1)

-- all steps: one for each part to come, and one for the end
abbrev pub to_end : {X : Type 0} → Reader X → (ℕ → X → Outcome) → State → Outcome
to_end read visit s = steps read visit (suc s.left) s

-- an array read to the end, each payload handed down before the next length is read
abbrev pub array_verdict : Verdict → Verdict
array_verdict below bs = then (array_recv bs) (λ o. to_end read_nullable (handed below) (at_values o))

-- a bound whose bytes begin at a place: its payload is handed down; the place behind it
abbrev pub side_handed : Verdict → ℕ → RangeBound Value → Result ℕ Fault
side_handed below at (Inclusive v) = then (handed below at v) (λ _. Ok (at + length (bound (Inclusive v))))
side_handed below at (Exclusive v) = then (handed below at v) (λ _. Ok (at + length (bound (Exclusive v))))
side_handed below at Unbounded = Ok at

-- a range that was read whole: lower before upper
abbrev pub sides_handed : Verdict → Content → Outcome
sides_handed below None = Ok tt
sides_handed below (Some p) = then (side_handed below 1 p.0) (λ at. then (side_handed below at p.1) (λ _. Ok tt))

abbrev pub range_verdict : Verdict → Verdict
range_verdict below bs = then (range_recv bs) (sides_handed below)
