-- Points in a row.
use Rattle.std.proofs.Common.{◌≡◌, ℕ, ◌+◌, ◌*◌, ◌<◌, ◌≤◌, List, [], ◌∷◌, ◌++◌, length, get_or, take, sym, refl, ap, ◌∙◌, arith}
use Rattle.std.proofs.lemmas.List.{length-take-le, take_more, flat_map_more}
use Rattle.double.specs.declared.point.Point.{Point}
use Rattle.geometry.specs.Layout.{point_layout, points_layout}

pub points_more : (ps : List Point) (i : ℕ) (p : Point) → i < length ps → points_layout (take (i + 1) ps) ≡ points_layout (take i ps) ++ point_layout (get_or ps i p)
points_more ps i p h = ap points_layout (take_more ps i p h) ∙ sym (flat_map_more point_layout [] (take i ps) (get_or ps i p))

pub length_points : (ps : List Point) → length (points_layout ps) ≡ 16 * length ps
length_points [] = refl
length_points (p ∷ ps) = let more = length_points ps in omega arith

pub length_front : (ps : List Point) (i : ℕ) → i ≤ length ps → length (points_layout (take i ps)) ≡ 16 * i
length_front ps i h = length_points (take i ps) ∙ ap (λ n. 16 * n) (length-take-le i ps h)
