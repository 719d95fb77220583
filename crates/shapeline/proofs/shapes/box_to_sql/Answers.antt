use Rattle.std.proofs.Common.{◌≡◌, length, Ok, vec_items, ap, ◌∙◌, rules}
use Rattle.std.proofs.lemmas.List.{with_items_is}
use Rattle.answers.proofs.Answering.{says, written_is}
use Rattle.answers.specs.Plain.{wrote, answered, room}
use Rattle.double.specs.Points.{point, corners}
use Rattle.geometry.specs.Layout.{box_layout}
use Rattle.wire.specs.Encoding.{Encoding, room_for}
use Rattle.shapeline.proofs.shapes.box_to_sql.Goals as goal

pub returns : goal.returns
returns c =
    let n = room (length c.args.argument.now) in
    let b = c.in-Some.corners in
    let upper : point c.x.result c.y.result ≡ b.upper_right = ap (λ x. point x c.y.result) c.x.ensures ∙ ap (point c.upper_right-a.result.x) c.y.ensures ∙ c.upper_right-a.ensures in
    let lower : point c.x-2.result c.y-2.result ≡ b.lower_left = ap (λ x. point x c.y-2.result) c.x-2.ensures ∙ ap (point c.lower_left-b.result.x) c.y-2.ensures ∙ c.lower_left-b.ensures in
    let before = c.deref_mut.result.now in
    let held_bytes : c.deref.result.now ≡ c.box_to_sql-written.new.part = search (rules, with_items_is) in
    let e : Encoding = room_for (length before) (Ok (box_layout (corners (point c.x.result c.y.result) (point c.x-2.result c.y-2.result)))) in
    says vec_items c.print_written.result _ _
    (ap wrote (written_is e before c.box_to_sql-written.ensures.answer (held_bytes ∙ c.box_to_sql-written.ensures.after))
    ∙ ap (λ l. wrote (room_for l (Ok (box_layout (corners (point c.x.result c.y.result) (point c.x-2.result c.y-2.result)))))) (ap length c.deref_mut.ensures.value ∙ c.in_ok-part.ensures)
    ∙ ap (λ p. wrote (room_for n (Ok (box_layout (corners p (point c.x-2.result c.y-2.result)))))) upper
    ∙ ap (λ p. wrote (room_for n (Ok (box_layout (corners b.upper_right p))))) lower
    ∙ ap (answered (λ a. wrote (room_for n (Ok (box_layout a))))) c.in-Some.ensures)
    c.print_written.ensures
