-- Reading a point and a box (point_recv, box_recv).
use Rattle.std.specs.Prelude.{ℕ, ◌+◌, List, Ok, Result}
use Rattle.fault.specs.declared.Fault.{Fault}
use Rattle.double.specs.declared.point.Box.{Box}
use Rattle.double.specs.declared.point.Point.{Point}
use Rattle.double.specs.Doubles.{word_double}
use Rattle.double.specs.Points.{point, corners}
use Rattle.wire.specs.Words.{then, ended, u64_at}

-- the point whose coordinates stand at a place
abbrev pub point_at : List ℕ → ℕ → Result Point Fault
point_at bs at = then (u64_at bs at) (λ x. then (u64_at bs (at + 8)) (λ y. Ok (point (word_double x) (word_double y))))

abbrev pub point_recv : List ℕ → Result Point Fault
point_recv bs = then (point_at bs 0) (ended bs 16)

abbrev pub box_recv : List ℕ → Result Box Fault
box_recv bs = then (point_at bs 0) (λ a. then (point_at bs 16) (λ b. ended bs 32 (corners a b)))
