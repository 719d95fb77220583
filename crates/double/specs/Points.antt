-- Points and boxes by the words of their coordinates.
use Rattle.std.specs.Prelude.{◌≡◌, Bool, ◌==◌, Decides, Float}
use Rattle.std.specs.Ordering.{on, eq_of_both}
use Rattle.double.specs.declared.point.Point.{Point}
use Rattle.double.specs.declared.point.Box.{Box}
use Rattle.double.specs.Doubles.{double_word}

abbrev pub point : Float → Float → Point
point x y = record { x = x; y = y }

abbrev pub corners : Point → Point → Box
corners a b = record { upper_right = a; lower_left = b }

-- equal when the words of both coordinates are
abbrev pub SameWords : Point → Point → Type 0
SameWords p q = (double_word p.x ≡ double_word q.x) × (double_word p.y ≡ double_word q.y)

abbrev pub same_point : Point → Point → Bool
same_point = eq_of_both (on (λ p. double_word p.x) ◌==◌) (on (λ p. double_word p.y) ◌==◌)

abbrev pub same_box : Box → Box → Bool
same_box = eq_of_both (on (λ b. b.upper_right) same_point) (on (λ b. b.lower_left) same_point)

-- the same, as facts
abbrev pub SamePoint : Point → Point → Bool → Type 0
SamePoint p q r = Decides r (SameWords p q)

abbrev pub SameBox : Box → Box → Bool → Type 0
SameBox a b r = Decides r (SameWords a.upper_right b.upper_right × SameWords a.lower_left b.lower_left)
