-- Lists read by a cursor, up to its end or its first fault.
use Rattle.std.specs.Prelude.{◌≡◌, ℕ, zero, suc, Bool, true, false, List, [], ◌∷◌, ◌++◌, Some, None, Ok, Err, Option, Result}
use Rattle.fault.specs.declared.Fault.{Fault}
use Rattle.wire.specs.Cursor.{State, Reader, Answer, step}
use Rattle.wire.specs.Cursors.{told_next}
use Rattle.answers.specs.Plain.{failure, list_text}

-- the texts of what a reader reads
abbrev pub shown : {X : Type 0} → (X → List ℕ) → Result (X × ℕ) Fault → Result (List ℕ × ℕ) Fault
shown show (Ok p) = Ok (show p.0, p.1)
shown show (Err f) = Err f

abbrev pub texts_of : {X : Type 0} → (X → List ℕ) → Reader X → Reader (List ℕ)
texts_of show read bs at = shown show (read bs at)

-- what a step gave: the texts that come next; a fault is the last
abbrev pub next_texts : Answer (List ℕ) → List (List ℕ) → List (List ℕ)
next_texts (Ok None) rest = []
next_texts (Ok (Some t)) rest = t ∷ rest
next_texts (Err f) rest = failure f ∷ []

-- the texts of at most n steps
abbrev pub steps_texts : Reader (List ℕ) → ℕ → State → List (List ℕ)
steps_texts read zero s = []
steps_texts read (suc n) s = next_texts (step read s).0 (steps_texts read n (step read s).1)

-- the list of all that a cursor gives: a step for each part to come, and one for the end
abbrev pub parts_text : Reader (List ℕ) → State → List ℕ
parts_text read s = list_text (steps_texts read (suc s.left) s)

-- a step as it is printed, behind a comma unless it is the first
abbrev pub comma : Bool → List ℕ
comma true = []
comma false = 44 ∷ []

abbrev pub part_text : Bool → Answer (List ℕ) → List ℕ
part_text first (Ok None) = []
part_text first (Ok (Some t)) = comma first ++ t
part_text first (Err f) = comma first ++ failure f

abbrev pub goes_on : Answer (List ℕ) → Bool
goes_on (Ok None) = false
goes_on (Ok (Some t)) = true
goes_on (Err f) = false

-- what a step answered, and where the cursor stands then, by the texts of parts
abbrev pub ShownBy : {I : Type 0} → (I → List ℕ) → Reader (List ℕ) → State → Result (Option I) Fault → State → Type 0
ShownBy text reads s a after = (told_next text a ≡ (step reads s).0) × (after ≡ (step reads s).1)
