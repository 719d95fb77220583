use Rattle.std.proofs.Common.{◌≡◌, length, Some, vec_items, sym, ap, ◌∙◌, rules}
use Rattle.std.proofs.lemmas.List.{with_items_is}
use Rattle.std.specs.Option.{option_map}
use Rattle.answers.proofs.Answering.{says, written_is}
use Rattle.answers.specs.Plain.{wrote, room}
use Rattle.path.specs.Layout.{path_encoding}
use Rattle.wire.specs.Encoding.{Encoding, room_for}
use Rattle.pathline.specs.Paths.{flag_in, written, path_words}
use Rattle.pathline.proofs.requests.path_to_sql.Goals as goal

pub returns : goal.returns
returns c =
    let n = room (length c.args.argument.now) in
    let closed = c.in-Some-parse_flag.closed in
    let lent = c.deref.result.now in
    let points = vec_items c.in-Some-2.points in
    let before = c.deref_mut.result.now in
    let held_bytes : c.deref-2.result.now ≡ c.path_to_sql-written.new.part = search (rules, with_items_is) in
    let e : Encoding = room_for (length before) (path_encoding closed lent) in
    says vec_items c.print_written.result _ _
    (ap wrote (written_is e before c.path_to_sql-written.ensures.answer (held_bytes ∙ c.path_to_sql-written.ensures.after))
    ∙ ap (λ l. wrote (room_for l (path_encoding closed lent))) (ap length c.deref_mut.ensures.value ∙ c.in_ok-part.ensures)
    ∙ ap (λ l. wrote (room_for n (path_encoding closed l))) c.deref.ensures.value
    ∙ ap (λ o. written n o (Some points)) c.in-Some-parse_flag.ensures
    ∙ ap (written n (flag_in c.in-Some.closed.now)) (sym (ap (option_map vec_items) c.in-Some-2.is) ∙ c.in_ok-points.ensures)
    ∙ ap (path_words n) c.in-Some.ensures)
    c.print_written.ensures
