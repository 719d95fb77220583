use Rattle.std.proofs.Common.{length, sym, ap, ◌∙◌}
use Rattle.wire.specs.Encoding.{told, laid, room_for}
use Rattle.content.proofs.Arrays.{content_fits}
use Rattle.content.proofs.array_content.ArrayContentEncoded.write.Goals as goal

pub returns : goal.returns
returns g c =
    let a = c.args.self.now in
    let is = g.S.Serializer.items a.serializer.now in
    let part = c.args.part.now in
    let e = content_fits a.oid c.count.result a.dims.now is c.count.ensures c.in_ok-check_dimensions.ensures in
    record {
      answer = c.array_to_sql.ensures.answer ∙ sym (ap (λ x. told (room_for (length part) x)) e);
      after = c.array_to_sql.ensures.after ∙ sym (ap (λ x. laid (room_for (length part) x) part) e);
    }
