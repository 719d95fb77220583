-- Cursors: reading the parts of a value one behind another.
use Rattle.std.specs.Prelude.{◌≡◌, ℕ, ◌+◌, ◌-◌, ◌^◌, ◌<◌, ◌≤◌, cond, List, [], ◌∷◌, ◌++◌, length, take, drop, Some, None, Ok, Err, Option, Result, ◌==◌, nat_lt}
use Rattle.fault.specs.declared.Fault.{Fault}
use Rattle.fault.specs.declared.Rule.TheVariants.{Trailing}
use Rattle.fault.specs.Faults.{fault}
use Rattle.wire.specs.Bytes.{Octets}
use Rattle.wire.specs.Items.{nullable}
use Rattle.wire.specs.Words.{Value, be, value_at}

-- where a cursor stands: the whole value, the place of the next part, how many parts are to come,
-- and the fault that it has met
pub record State : Type 0 where
  pub bytes : List ℕ
  pub place : ℕ
  pub left : ℕ
  pub met : Option Fault

-- a part and its number of bytes, read at a place
abbrev pub Reader : Type 0 → Type 0
Reader X = List ℕ → ℕ → Result (X × ℕ) Fault

-- a part, or none at the end
abbrev pub Answer : Type 0 → Type 0
Answer X = Result (Option X) Fault

-- a fault is kept, and the cursor stays where it is
abbrev pub failed : {X : Type 0} → Fault → State → Answer X × State
failed f s = (Err f, record { bytes = s.bytes; place = s.place; left = s.left; met = Some f })

-- a part was read, or was not
abbrev pub taken : {X : Type 0} → Result (X × ℕ) Fault → State → Answer X × State
taken (Ok p) s = (Ok (Some p.0), record { bytes = s.bytes; place = s.place + p.1; left = s.left - 1; met = None })
taken (Err f) s = failed f s

-- no part is to come: no byte may remain
abbrev pub ended : {X : Type 0} → State → Answer X × State
ended s = cond (nat_lt s.place (length s.bytes)) (failed (fault Trailing s.place) s) (Ok None, s)

-- a fault once met is met again
abbrev pub next_of : {X : Type 0} → Reader X → Option Fault → State → Answer X × State
next_of read (Some f) s = (Err f, s)
next_of read None s = cond (s.left == 0) (ended s) (taken (read s.bytes s.place) s)

abbrev pub step : {X : Type 0} → Reader X → State → Answer X × State
step read s = next_of read s.met s

-- reading to the end: steps from a state give these parts, then none
pub data Reads {X : Type 0} (read : Reader X) : State → List X → Type 0 where
  end : {s t : State} → step read s ≡ (Ok None, t) → Reads read s []
  more : {s t : State} {x : X} {xs : List X} → step read s ≡ (Ok (Some x), t) → Reads read t xs → Reads read s (x ∷ xs)

-- a cursor that stands before the last parts of a value
abbrev pub before : List ℕ → ℕ → ℕ → State
before bs at n = record { bytes = bs; place = at; left = n; met = None }

-- bytes that are the forms of parts, one behind another
pub data Row {X : Type 0} (form : X → List ℕ → Type 0) : List X → List ℕ → Type 0 where
  none : Row form [] []
  one : {x : X} {xs : List X} {e es : List ℕ} → form x e → Row form xs es → Row form (x ∷ xs) (e ++ es)

-- a reader reads just the forms: what it reads at a place is a form of the answer, and a form is read wherever it stands
pub record ReadsForms {X : Type 0} (read : Reader X) (form : X → List ℕ → Type 0) : Type 0 where
  pub reads : (pre e rest : List ℕ) (x : X) → form x e → read (pre ++ (e ++ rest)) (length pre) ≡ Ok (x, length e)
  pub formed : (bs : List ℕ) (at n : ℕ) (x : X) → Octets bs → read bs at ≡ Ok (x, n) → (at + n ≤ length bs) × form x (take n (drop at bs))

-- a part with its number of bytes
abbrev pub sized : {X : Type 0} → (X → ℕ) → Result X Fault → Result (X × ℕ) Fault
sized size (Ok x) = Ok (x, size x)
sized size (Err f) = Err f

-- a value behind its length word
abbrev pub read_nullable : Reader Value
read_nullable bs at = sized (λ v. length (nullable v)) (value_at bs at)

-- the forms of a value that readers take: NULL has any negative length
abbrev pub Nullable : Value → List ℕ → Type 0
Nullable None e = (n : ℕ) × (2 ^ 31 ≤ n) × (n < 2 ^ 32) × (e ≡ be 4 n)
Nullable (Some bs) e = (length bs < 2 ^ 31) × (e ≡ be 4 (length bs) ++ bs)
