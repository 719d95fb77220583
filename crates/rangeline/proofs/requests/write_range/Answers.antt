use Rattle.std.proofs.Common.{◌≡◌, [], map, length, Some, vec_items, sym, ap, ◌∙◌, rules}
use Rattle.std.proofs.lemmas.List.{with_items_is}
use Rattle.std.specs.Option.{option_map}
use Rattle.answers.proofs.Answering.{says, written_is}
use Rattle.answers.specs.Plain.{wrote}
use Rattle.items.specs.Slots.{slot_item}
use Rattle.range.specs.Encoding.{range_encoding}
use Rattle.wire.specs.Encoding.{Encoding, room_for}
use Rattle.rangeline.specs.Ranges.{bound_in, both_in, lower_in}
use Rattle.rangeline.proofs.requests.write_range.Goals as goal

pub returns : goal.returns
returns c =
    let n = length (vec_items c.args.part) in
    let lower = c.in-Some.lower in
    let upper = c.in-Some-2.upper in
    let first = map slot_item (vec_items c.parse_bound.new.slots) in
    let is = map slot_item (vec_items c.parse_bound-2.new.slots) in
    let lower-is : Some (first, lower) ≡ bound_in [] c.args.lower.now = sym (ap (option_map (λ b. (first, b))) c.in-Some.is) ∙ c.in_ok-lower.ensures ∙ ap (λ l. bound_in (map slot_item l) c.args.lower.now) c.new-slots.ensures.items in
    let upper_is : Some (is, upper) ≡ bound_in first c.args.upper.now = sym (ap (option_map (λ b. (is, b))) c.in-Some-2.is) ∙ c.in_ok-upper.ensures in
    let before = c.deref_mut.result.now in
    let held_bytes : c.deref.result.now ≡ c.range_to_sql-written.new.part = search (rules, with_items_is) in
    let e : Encoding = room_for (length before) (range_encoding is lower upper) in
    says vec_items c.print_written.result _ _
    (ap wrote (written_is e before c.range_to_sql-written.ensures.answer (held_bytes ∙ c.range_to_sql-written.ensures.after))
    ∙ ap (λ l. wrote (room_for (length l) (range_encoding is lower upper))) c.deref_mut.ensures.value
    ∙ ap (both_in n lower) upper_is
    ∙ ap (lower_in n c.args.upper.now) lower-is)
    c.print_written.ensures
