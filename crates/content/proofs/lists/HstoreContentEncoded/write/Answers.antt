use Rattle.std.proofs.Common.{length, sym, ap, ◌∙◌}
use Rattle.texts.specs.Places.{pool_pair}
use Rattle.wire.specs.Encoding.{told, laid, room_for}
use Rattle.content.proofs.Counts.{hstore_is}
use Rattle.content.proofs.lists.HstoreContentEncoded.write.Goals as goal

pub returns : goal.returns
returns c =
    let h = c.args.self.now in
    let part = c.args.part.now in
    let e = hstore_is (pool_pair h.pools) h.entries.now in
    record {
      answer = c.hstore_to_sql.ensures.answer ∙ sym (ap (λ x. told (room_for (length part) x)) e);
      after = c.hstore_to_sql.ensures.after ∙ sym (ap (λ x. laid (room_for (length part) x) part) e);
    }
