use Rattle.std.proofs.Common.{Err, sym, ap, ◌∙◌}
use Rattle.std.proofs.lemmas.Result.{err_from_is_err_and}
use Rattle.wire.specs.Items.{size_of}
use Rattle.rows.proofs.Windowing.{numbered, unnumbered}
use Rattle.rows.proofs.window.WindowSerializer.size.Goals as goal

pub returns-in_err-number : goal.returns-in_err-number
returns-in_err-number g c =
    let w = c.args.self.now in
    let is = g.S.Serializer.items w.inner.now in
    let p = err_from_is_err_and c.from_residual.result c.from_residual.ensures.1 in
    p.1 ∙ ap Err p.2 ∙ sym (ap size_of (unnumbered is w.first w.count c.args.k _ c.in_err-number.ensures))

pub returns : goal.returns
returns g c =
    let w = c.args.self.now in
    let is = g.S.Serializer.items w.inner.now in
    c.size_above.ensures ∙ sym (ap size_of (numbered is w.first w.count c.args.k c.in_ok-number.field-0 c.in_ok-number.ensures))
