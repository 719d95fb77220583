use Rattle.std.proofs.Common.{◌≡◌, ◌+◌, ◌*◌, ◌≤◌, length, take}
use Rattle.wire.specs.Bytes.{put}
use Rattle.geometry.specs.Layout.{points_layout}
use Rattle.geometry.proofs.write.put_points.Given as goal

abbrev pub invariant-loop-point : goal.invariant-loop-point
invariant-loop-point l =
    (l.at + 16 * length l.points ≤ length l.initial.part)
    × (l.end ≡ l.at + 16 * l.point-index)
    × (l.part ≡ put l.at (points_layout (take l.point-index l.points)) l.initial.part)
