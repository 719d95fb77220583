use Rattle.std.proofs.Common.{[], ◌∷◌, ◌++◌, codes, ap, ◌∙◌}
use Rattle.std.proofs.lemmas.List.{append_assoc}
use Rattle.std.proofs.lemmas.Slice.{pushed}
use Rattle.shapeline.specs.Words.{point_text}
use Rattle.shapeline.proofs.shapes.print_box.Goals as goal

pub returns : goal.returns
returns c =
    let a = point_text 44 c.upper_right.result in
    let b = point_text 44 c.lower_left.result in
    let upper = c.in_ok-push_point.ensures ∙ ap (λ l. l ++ a) c.in_ok-out.ensures.items in
    let comma = pushed (44 ∷ []) upper c.in_ok-push.was c.push.ensures.items in
    c.in_ok-push_point-2.ensures
    ∙ ap (λ l. l ++ b) comma
    ∙ append_assoc (codes "box " ++ a) (44 ∷ []) b
    ∙ append_assoc (codes "box ") a (44 ∷ b)
    ∙ ap (λ p. codes "box " ++ (point_text 44 p ++ (44 ∷ b))) c.upper_right.ensures
    ∙ ap (λ p. codes "box " ++ (point_text 44 c.args.corners.upper_right ++ (44 ∷ point_text 44 p))) c.lower_left.ensures
