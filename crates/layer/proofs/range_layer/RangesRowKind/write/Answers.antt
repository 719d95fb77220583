use Rattle.std.proofs.Common.{length, ap, ◌∙◌}
use Rattle.wire.specs.Encoding.{told, laid, room_for}
use Rattle.layer.proofs.Seen.{range_seen}
use Rattle.layer.proofs.range_layer.RangesRowKind.write.Goals as goal

pub returns-in-Bounds : goal.returns-in-Bounds
returns-in-Bounds g c =
    let w = c.new-window.result in
    let part = c.args.part.now in
    let seen = range_seen g.S.Serializer.items w.inner.now c.args.inner.now w.first w.count c.in-Bounds.lower c.in-Bounds.upper c.new-window.ensures c.from.ensures c.from-in-Bounds.ensures c.in-Bounds.is in
    record {
      answer = c.range_to_sql.ensures.answer ∙ ap (λ e. told (room_for (length part) e)) seen;
      after = c.range_to_sql.ensures.after ∙ ap (λ e. laid (room_for (length part) e) part) seen;
    }
