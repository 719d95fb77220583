-- Reading a path (path_recv): its head, then its points.
use Rattle.std.specs.Prelude.{ℕ, Bool, not, List, Ok, Result, ◌==◌}
use Rattle.fault.specs.declared.Fault.{Fault}
use Rattle.double.specs.declared.point.Point.{Point}
use Rattle.geometry.specs.Recv.{point_at}
use Rattle.wire.specs.Cursor.{State, Reader, before, sized}
use Rattle.wire.specs.Words.{then, u8_at, count_at}

-- an opened path: its bytes, whether it is closed, and how many points it has
pub record Opened : Type 0 where
  pub bytes : List ℕ
  pub closed : Bool
  pub count : ℕ

-- any nonzero byte is closed
abbrev pub opened_with : List ℕ → ℕ → ℕ → Opened
opened_with bs byte n = record { bytes = bs; closed = not (byte == 0); count = n }

abbrev pub path_recv : List ℕ → Result Opened Fault
path_recv bs = then (u8_at bs 0) (λ byte. then (count_at bs 1) (λ n. Ok (opened_with bs byte n)))

-- a point of sixteen bytes
abbrev pub read_point : Reader Point
read_point bs at = sized (λ _. 16) (point_at bs at)

abbrev pub at_points : Opened → State
at_points o = before o.bytes 5 o.count
