use Rattle.std.proofs.Common.{◌≡◌, map, length, vec_items, sym, ap, ◌∙◌, rules}
use Rattle.std.proofs.lemmas.List.{with_items_is}
use Rattle.std.specs.Option.{option_map}
use Rattle.answers.proofs.Answering.{says, written_is}
use Rattle.answers.specs.Plain.{wrote}
use Rattle.array.specs.Encoding.{array_encoding}
use Rattle.items.specs.Slots.{slot_item}
use Rattle.syntax.specs.Parsed.{number_in}
use Rattle.wire.specs.Encoding.{Encoding, room_for}
use Rattle.arrayline.proofs.Arrays.{written_by}
use Rattle.arrayline.proofs.requests.write_array.Goals as goal

pub returns : goal.returns
returns c =
    let n = length (vec_items c.args.part) in
    let oid = c.in-Some.oid in
    let ds = vec_items c.in-Some-2.dims in
    let is = map slot_item (vec_items c.in-Some-3.items.slots) in
    let before = c.deref_mut.result.now in
    let spelled = c.in-Some.ensures ∙ ap (λ m. number_in m c.args.oid.now) c.from.ensures in
    let held_bytes : c.deref-2.result.now ≡ c.array_to_sql-written.new.part = search (rules, with_items_is) in
    let e : Encoding = room_for (length before) (array_encoding c.deref.result.now oid is) in
    says vec_items c.print_written.result _ _
    (ap wrote (written_is e before c.array_to_sql-written.ensures.answer (held_bytes ∙ c.array_to_sql-written.ensures.after))
    ∙ ap (λ l. wrote (room_for (length l) (array_encoding c.deref.result.now oid is))) c.deref_mut.ensures.value
    ∙ ap (λ l. wrote (room_for n (array_encoding l oid is))) c.deref.ensures.value
    ∙ written_by n oid ds is spelled (sym (ap (option_map vec_items) c.in-Some-2.is) ∙ c.in_ok-dims.ensures) (sym (ap (option_map (λ l. map slot_item (vec_items l.slots))) c.in-Some-3.is) ∙ c.in_ok-items.ensures))
    c.print_written.ensures
