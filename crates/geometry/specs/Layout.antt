-- The layout of a point and of a box (point_send, box_send).
use Rattle.std.specs.Prelude.{ℕ, List, ◌++◌}
use Rattle.std.specs.List.{flat_map}
use Rattle.double.specs.declared.point.Box.{Box}
use Rattle.double.specs.declared.point.Point.{Point}
use Rattle.double.specs.Doubles.{double_word}
use Rattle.wire.specs.Words.{be}

-- two doubles
abbrev pub point_layout : Point → List ℕ
point_layout p = be 8 (double_word p.x) ++ be 8 (double_word p.y)

-- points, one behind another
abbrev pub points_layout : List Point → List ℕ
points_layout ps = flat_map point_layout ps

-- two corners as they were given, the upper right one first
abbrev pub box_layout : Box → List ℕ
box_layout b = point_layout b.upper_right ++ point_layout b.lower_left
