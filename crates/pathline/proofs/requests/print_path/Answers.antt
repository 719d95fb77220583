use Rattle.std.proofs.Common.{[], ◌∷◌, ◌++◌, codes, ap, ◌∙◌}
use Rattle.std.proofs.lemmas.List.{append_assoc}
use Rattle.std.proofs.lemmas.Slice.{pushed}
use Rattle.answers.specs.Parts.{texts_of, parts_text}
use Rattle.answers.specs.Plain.{flag_text}
use Rattle.path.specs.Recv.{read_point}
use Rattle.wire.specs.Cursors.{state}
use Rattle.shapeline.specs.Words.{point_text}
use Rattle.pathline.proofs.requests.print_path.Goals as goal

pub returns : goal.returns
returns c =
    let flag = flag_text c.closed.result in
    let list = parts_text (texts_of (point_text 58) read_point) (state c.new.result.cursor) in
    let closed = c.in_ok-push_flag.ensures ∙ ap (λ l. l ++ flag) c.in_ok-out.ensures.items in
    let space = pushed (32 ∷ []) closed c.in_ok-push.was c.push.ensures.items in
    c.in_ok-push_parts.ensures
    ∙ ap (λ l. l ++ list) space
    ∙ append_assoc (codes "path closed=" ++ flag) (32 ∷ []) list
    ∙ append_assoc (codes "path closed=") flag (32 ∷ list)
    ∙ ap (λ b. codes "path closed=" ++ (flag_text b ++ (32 ∷ list))) c.closed.ensures
    ∙ ap (λ s. codes "path closed=" ++ (flag_text c.args.path.now.closed ++ (32 ∷ parts_text (texts_of (point_text 58) read_point) s))) (ap state c.new.ensures ∙ c.points.ensures)
