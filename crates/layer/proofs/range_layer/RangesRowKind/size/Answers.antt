use Rattle.std.proofs.Common.{◌≡◌, ℕ, ◌^◌, ◌<◌, Ok, ap, ◌∙◌, rules}
use Rattle.wire.specs.Encoding.{told}
use Rattle.rows.specs.Rows.{range_row}
use Rattle.layer.proofs.Seen.{range_seen, told_counted}
use Rattle.layer.proofs.range_layer.RangesRowKind.size.Goals as goal

pub returns-in-Bounds : goal.returns-in-Bounds
returns-in-Bounds g c =
    let fits : (n : ℕ) → c.range_size.result ≡ Ok n → n < 2 ^ 64 = λ n e. search rules in
    let w = c.new-window.result in
    let seen = range_seen g.S.Serializer.items w.inner.now c.args.inner.now w.first w.count c.in-Bounds.lower c.in-Bounds.upper c.new-window.ensures c.from.ensures c.from-in-Bounds.ensures c.in-Bounds.is in
    told_counted (range_row (g.S.Serializer.items c.args.inner.now) c.args.row) c.range_size.result fits (c.range_size.ensures ∙ ap told seen)
