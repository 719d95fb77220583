use Rattle.std.proofs.Common.{◌≡◌, ◌+◌, ◌^◌, ◌<◌, length, pos, Ok, sym, ap, ◌∙◌, arith, w32, SFits, to_z, of_z, rules}
use Rattle.std.proofs.lemmas.Int.{to_z-of_z}
use Rattle.std.specs.List.{flat_map}
use Rattle.texts.specs.Places.{pool_pair}
use Rattle.wire.specs.Encoding.{told as told_of, laid, laid_at}
use Rattle.wire.specs.Words.{int}
use Rattle.wire.proofs.Counts.{count_fits}
use Rattle.wire.proofs.Writing.{roomy}
use Rattle.hstore.specs.Encoding.{entry_texts, places_layout}
use Rattle.hstore.specs.Layout.{hstore_layout}
use Rattle.hstore.proofs.Sizes.{sized}
use Rattle.hstore.proofs.Texts.{entries_are, all_named, same_layout}
use Rattle.hstore.proofs.Writes.{encoding_is, laid_out}
use Rattle.hstore.proofs.write.encode.Goals as goal

pub write_entries-requires : goal.write_entries-requires
write_entries-requires c =
    let part = c.args.part.now in
    let t = sized _ c.in_ok-bytes.bytes c.in_ok-bytes.ensures in
    let told = entries_are (pool_pair c.args.pools) 0 c.args.entries.now t.0 t.1 in
    let bound : length part < 2 ^ 64 = search rules in
    record { texts = all_named told; room = omega (arith, ap length (same_layout told)) }

pub returns : goal.returns
returns c =
    let ps = pool_pair c.args.pools in
    let es = c.args.entries.now in
    let part = c.args.part.now in
    let count = count_fits (length es) 0 _ c.in_ok-count.ensures in
    let t = sized (entry_texts ps 0 es) c.in_ok-bytes.bytes c.in_ok-bytes.ensures in
    let told = entries_are ps 0 es t.0 t.1 in
    let fits : SFits w32 c.in_ok-count.count = search rules in
    let same : to_z w32 (of_z w32 c.in_ok-count.count) ≡ pos (length es) = to_z-of_z w32 c.in_ok-count.count fits ∙ count.1 in
    let first = c.put.ensures.after ∙ ap (λ z. laid_at 0 (int z) part) same in
    let bytes = laid_out ps es t.0 part told (omega arith) first c.write_entries.ensures.after in
    let bound : length part < 2 ^ 64 = search rules in
    let e = roomy (length part) (hstore_layout t.0) (encoding_is ps es t.0 c.in_ok-test_keys.ensures t.1 count.0) (omega arith) in
    let long : 4 + length (flat_map (places_layout ps) es) ≡ length (hstore_layout t.0) = omega (arith, ap length (same_layout told)) in
    record { answer = c.write_entries.ensures.answer ∙ ap Ok long ∙ sym (ap told_of e); after = bytes ∙ sym (ap (λ y. laid y part) e) }
