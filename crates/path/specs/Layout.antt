-- The layout of a path (path_send).
use Rattle.std.specs.Prelude.{ℕ, ◌^◌, Bool, cond, List, ◌∷◌, ◌++◌, length, Ok, Err, nat_lt}
use Rattle.fault.specs.declared.Rule.TheVariants.{TooGreat}
use Rattle.fault.specs.Faults.{fault}
use Rattle.double.specs.declared.point.Point.{Point}
use Rattle.geometry.specs.Layout.{points_layout}
use Rattle.wire.specs.Encoding.{Encoding}
use Rattle.wire.specs.Words.{be}

-- a closed byte, the point count, the points
abbrev pub path_bytes : ℕ → ℕ → List ℕ → List ℕ
path_bytes byte count points = byte ∷ (be 4 count ++ points)

-- the byte is written 0 or 1
abbrev pub path_layout : Bool → List Point → List ℕ
path_layout closed ps = path_bytes (cond closed 1 0) (length ps) (points_layout ps)

abbrev pub path_encoding : Bool → List Point → Encoding
path_encoding closed ps = cond (nat_lt (length ps) (2 ^ 31)) (Ok (path_layout closed ps)) (Err (fault TooGreat 0))
