use Rattle.std.proofs.Common.{◌≡◌, ◌-◌, ◌^◌, length, Some, vec_items, sym, ap, ◌∙◌, rules}
use Rattle.std.proofs.lemmas.List.{with_items_is}
use Rattle.std.specs.Option.{option_map}
use Rattle.answers.proofs.Answering.{says, written_is}
use Rattle.answers.specs.Plain.{wrote, room}
use Rattle.syntax.specs.Parsed.{number_in}
use Rattle.varbit.specs.Layout.{varbit_encoding}
use Rattle.wire.specs.Encoding.{Encoding, room_for}
use Rattle.shapeline.specs.Bits.{written, bits_words}
use Rattle.shapeline.proofs.varbits.varbit_to_sql.Goals as goal

pub returns : goal.returns
returns c =
    let n = room (length c.args.argument.now) in
    let bits = c.in-Some-parse_number.bits in
    let lent = c.deref.result.now in
    let bytes = vec_items c.in-Some-2.bytes in
    let before = c.deref_mut.result.now in
    let held_bytes : c.deref-2.result.now ≡ c.varbit_to_sql-written.new.part = search (rules, with_items_is) in
    let e : Encoding = room_for (length before) (varbit_encoding bits lent) in
    says vec_items c.print_written.result _ _
    (ap wrote (written_is e before c.varbit_to_sql-written.ensures.answer (held_bytes ∙ c.varbit_to_sql-written.ensures.after))
    ∙ ap (λ l. wrote (room_for l (varbit_encoding bits lent))) (ap length c.deref_mut.ensures.value ∙ c.in_ok-part.ensures)
    ∙ ap (λ l. wrote (room_for n (varbit_encoding bits l))) c.deref.ensures.value
    ∙ ap (λ o. written n o (Some bytes)) c.in-Some-parse_number.ensures
    ∙ ap (written n (number_in (2 ^ 64 - 1) c.in-Some.bits.now)) (sym (ap (option_map vec_items) c.in-Some-2.is) ∙ c.in_ok-bytes.ensures)
    ∙ ap (bits_words n) c.in-Some.ensures)
    c.print_written.ensures
