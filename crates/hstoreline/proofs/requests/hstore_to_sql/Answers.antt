use Rattle.std.proofs.Common.{◌≡◌, [], length, vec_items, sym, ap, ◌∙◌, rules}
use Rattle.std.proofs.lemmas.List.{with_items_is}
use Rattle.std.specs.Option.{option_map}
use Rattle.answers.proofs.Answering.{says, written_is}
use Rattle.answers.specs.Plain.{answered, wrote, room}
use Rattle.hstore.specs.Encoding.{hstore_encoding}
use Rattle.texts.specs.Places.{Bytes, pool_pair}
use Rattle.wire.specs.Encoding.{Encoding, room_for}
use Rattle.hstoreline.specs.Hstores.{written}
use Rattle.hstoreline.proofs.requests.hstore_to_sql.Goals as goal

pub returns : goal.returns
returns c =
    let n = room (length c.args.argument.now) in
    let list = c.in-Some.list in
    let house = vec_items list.house in
    let pools : Bytes = pool_pair c.new-pools.result in
    let entries = c.deref-2.result.now in
    let before = c.deref_mut.result.now in
    let held_bytes : c.deref-3.result.now ≡ c.hstore_to_sql-written.new.part = search (rules, with_items_is) in
    let e : Encoding = room_for (length before) (hstore_encoding pools entries) in
    let read = sym (ap (option_map (λ l. (vec_items l.house, vec_items l.entries))) c.in-Some.is) ∙ c.in_ok-list.ensures in
    says vec_items c.print_written.result _ _
    (ap wrote (written_is e before c.hstore_to_sql-written.ensures.answer (held_bytes ∙ c.hstore_to_sql-written.ensures.after))
    ∙ ap (λ m. wrote (room_for m (hstore_encoding pools entries))) (ap length c.deref_mut.ensures.value ∙ c.in_ok-part.ensures)
    ∙ ap (λ ps. wrote (room_for n (hstore_encoding ps entries))) c.new-pools.ensures
    ∙ ap (λ l. wrote (room_for n (hstore_encoding (l, []) entries))) c.deref.ensures.value
    ∙ ap (λ l. wrote (room_for n (hstore_encoding (house, []) l))) c.deref-2.ensures.value
    ∙ ap (answered (written n)) read)
    c.print_written.ensures
