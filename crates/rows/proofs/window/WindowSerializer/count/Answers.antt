use Rattle.std.proofs.Common.{sym}
use Rattle.rows.proofs.Windowing.{window_length}
use Rattle.rows.proofs.window.WindowSerializer.count.Goals as goal

pub returns : goal.returns
returns g c =
    let w = c.args.self.now in
    sym (window_length (g.S.Serializer.items w.inner.now) w.first w.count)
