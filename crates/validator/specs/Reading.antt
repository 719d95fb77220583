-- Reading to the end, as a relation: the steps of a cursor one behind another, each payload read by the level below, until the end or the first fault.
use Rattle.std.specs.Prelude.{◌≡◌, ℕ, ◌+◌, List, length, Some, None, Ok, Err}
use Rattle.fault.specs.declared.Fault.{Fault}
use Rattle.fault.specs.Faults.{up}
use Rattle.wire.specs.Cursor.{State, Reader, step, read_nullable}
use Rattle.wire.specs.Words.{Value}
use Rattle.array.specs.Recv.{Opened, array_recv, at_values}
use Rattle.range.specs.declared.bound.RangeBound.{RangeBound}
use Rattle.range.specs.declared.bound.RangeBound.TheVariants.{Inclusive, Exclusive, Unbounded}
use Rattle.range.specs.Layout.{bound}
use Rattle.range.specs.Recv.{range_recv}
use Rattle.validator.specs.Verdicts.{Outcome}

-- how bytes are read: to the end, or up to a fault
abbrev pub Reading : Type 1
Reading = List ℕ → Outcome → Type 0

-- what becomes of a value whose length word stands at a place: NULL is not handed down; a fault from below comes up by the payload's start, one level higher
pub data Hands (below : Reading) : ℕ → Value → Outcome → Type 0 where
  null : {at : ℕ} → Hands below at None (Ok tt)
  accepted : {at : ℕ} {p : List ℕ} → below p (Ok tt) → Hands below at (Some p) (Ok tt)
  refused : {at : ℕ} {p : List ℕ} {f : Fault} → below p (Err f) → Hands below at (Some p) (Err (up (at + 4) f))

-- the steps of a cursor from a state on, with what becomes of each part
pub data Walks {X : Type 0} (read : Reader X) (Part : ℕ → X → Outcome → Type 0) : State → Outcome → Type 0 where
  ends : {s t : State} → step read s ≡ (Ok None, t) → Walks read Part s (Ok tt)
  breaks : {s t : State} {f : Fault} → step read s ≡ (Err f, t) → Walks read Part s (Err f)
  stops : {s t : State} {x : X} {f : Fault} → step read s ≡ (Ok (Some x), t) → Part s.place x (Err f) → Walks read Part s (Err f)
  goes_on : {s t : State} {x : X} {o : Outcome} → step read s ≡ (Ok (Some x), t) → Part s.place x (Ok tt) → Walks read Part t o → Walks read Part s o

-- an array: it is opened, then its elements are read
pub data ReadsArray (below : Reading) : List ℕ → Outcome → Type 0 where
  unopened : {bs : List ℕ} {f : Fault} → array_recv bs ≡ Err f → ReadsArray below bs (Err f)
  opened : {bs : List ℕ} {a : Opened} {o : Outcome} → array_recv bs ≡ Ok a → Walks read_nullable (Hands below) (at_values a) o → ReadsArray below bs o

-- a bound whose bytes begin at a place
pub data ReadsSide (below : Reading) : ℕ → RangeBound Value → Outcome → Type 0 where
  inclusive : {at : ℕ} {v : Value} {o : Outcome} → Hands below at v o → ReadsSide below at (Inclusive v) o
  exclusive : {at : ℕ} {v : Value} {o : Outcome} → Hands below at v o → ReadsSide below at (Exclusive v) o
  unbounded : {at : ℕ} → ReadsSide below at Unbounded (Ok tt)

-- a range: it is read whole, then its bounds are handed down, lower before upper
pub data ReadsRange (below : Reading) : List ℕ → Outcome → Type 0 where
  unread : {bs : List ℕ} {f : Fault} → range_recv bs ≡ Err f → ReadsRange below bs (Err f)
  empty : {bs : List ℕ} → range_recv bs ≡ Ok None → ReadsRange below bs (Ok tt)
  stopped : {bs : List ℕ} {l u : RangeBound Value} {f : Fault} → range_recv bs ≡ Ok (Some (l, u)) → ReadsSide below 1 l (Err f) → ReadsRange below bs (Err f)
  passed : {bs : List ℕ} {l u : RangeBound Value} {o : Outcome} → range_recv bs ≡ Ok (Some (l, u)) → ReadsSide below 1 l (Ok tt) → ReadsSide below (1 + length (bound l)) u o → ReadsRange below bs o
