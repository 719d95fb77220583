use Rattle.std.proofs.Common.{[], ◌∷◌, ◌++◌, vec_items, ap, ◌∙◌}
use Rattle.std.proofs.lemmas.List.{append_assoc}
use Rattle.std.proofs.lemmas.Slice.{pushed}
use Rattle.answers.proofs.Texts.{behind}
use Rattle.shapeline.specs.Words.{double_text, point_text}
use Rattle.shapeline.proofs.words.push_point.Goals as goal

pub returns : goal.returns
returns c =
    let sep = c.args.separator in
    let p = c.args.point in
    let x = double_text c.x.result in
    let y = double_text c.y.result in
    behind c.push_double-2.result (x ++ (sep ∷ [])) (vec_items c.args.out.now) (vec_items c.push.new.self) (vec_items c.push_double-2.new.out) y (point_text sep p)
    (pushed (sep ∷ []) c.in_ok-push_double.ensures c.in_ok-push.was c.push.ensures.items ∙ append_assoc (vec_items c.args.out.now) x (sep ∷ []))
    (append_assoc x (sep ∷ []) y ∙ ap (λ a. double_text a ++ (sep ∷ y)) c.x.ensures ∙ ap (λ b. double_text p.x ++ (sep ∷ double_text b)) c.y.ensures)
    c.push_double-2.ensures
