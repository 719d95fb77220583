use Rattle.std.proofs.Common.{◌≡◌, length, Ok, vec_items, ap, ◌∙◌, rules}
use Rattle.std.proofs.lemmas.List.{with_items_is}
use Rattle.answers.proofs.Answering.{says, written_is}
use Rattle.answers.specs.Plain.{wrote, answered, room}
use Rattle.double.specs.Points.{point}
use Rattle.geometry.specs.Layout.{point_layout}
use Rattle.wire.specs.Encoding.{Encoding, room_for}
use Rattle.shapeline.proofs.shapes.point_to_sql.Goals as goal

pub returns : goal.returns
returns c =
    let n = room (length c.args.argument.now) in
    let p = c.in-Some.point in
    let x = c.x.result in
    let y = c.y.result in
    let before = c.deref_mut.result.now in
    let held_bytes : c.deref.result.now ≡ c.point_to_sql-written.new.part = search (rules, with_items_is) in
    let e : Encoding = room_for (length before) (Ok (point_layout (point x y))) in
    says vec_items c.print_written.result _ _
    (ap wrote (written_is e before c.point_to_sql-written.ensures.answer (held_bytes ∙ c.point_to_sql-written.ensures.after))
    ∙ ap (λ l. wrote (room_for l (Ok (point_layout (point x y))))) (ap length c.deref_mut.ensures.value ∙ c.in_ok-part.ensures)
    ∙ ap (λ a. wrote (room_for n (Ok (point_layout (point a y))))) c.x.ensures
    ∙ ap (λ b. wrote (room_for n (Ok (point_layout (point p.x b))))) c.y.ensures
    ∙ ap (answered (λ q. wrote (room_for n (Ok (point_layout q))))) c.in-Some.ensures)
    c.print_written.ensures
