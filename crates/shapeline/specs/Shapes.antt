-- The requests that read and write a point or a box.
use Rattle.std.specs.Prelude.{ℕ, List, ◌∷◌, ◌++◌, length, Some, None, Ok, Err, codes, Option, Result}
use Rattle.answers.specs.Plain.{refused, wrote, answered, room}
use Rattle.double.specs.declared.point.Box.{Box}
use Rattle.double.specs.declared.point.Point.{Point}
use Rattle.double.specs.Points.{corners}
use Rattle.fault.specs.declared.Fault.{Fault}
use Rattle.geometry.specs.Layout.{point_layout, box_layout}
use Rattle.syntax.specs.Parsed.{split_at}
use Rattle.wire.specs.Encoding.{room_for}
use Rattle.shapeline.specs.Words.{point_text, double_in, point_in, point_of}

-- point W,W
abbrev pub point_answer : Result Point Fault → List ℕ
point_answer (Ok p) = codes "point " ++ point_text 44 p
point_answer (Err f) = refused f

-- box W,W,W,W
abbrev pub box_answer : Result Box Fault → List ℕ
box_answer (Ok b) = codes "box " ++ (point_text 44 b.upper_right ++ (44 ∷ point_text 44 b.lower_left))
box_answer (Err f) = refused f

-- W,W
abbrev pub point_written : List ℕ → List ℕ
point_written argument = answered (λ p. wrote (room_for (room (length argument)) (Ok (point_layout p)))) (point_in 44 argument)

abbrev pub box_of : Option Point → Option Point → Option Box
box_of (Some a) (Some b) = Some (corners a b)
box_of (Some a) None = None
box_of None b = None

abbrev pub second_word : List ℕ → Option (List ℕ × List ℕ) → Option Box
second_word x (Some q) = box_of (point_of (double_in x) (double_in q.0)) (point_in 44 q.1)
second_word x None = None

abbrev pub first_word : Option (List ℕ × List ℕ) → Option Box
first_word (Some p) = second_word p.0 (split_at 44 p.1)
first_word None = None

-- the box that four words make
abbrev pub box_in : List ℕ → Option Box
box_in w = first_word (split_at 44 w)

-- W,W,W,W
abbrev pub box_written : List ℕ → List ℕ
box_written argument = answered (λ b. wrote (room_for (room (length argument)) (Ok (box_layout b)))) (box_in argument)
