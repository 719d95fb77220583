use Rattle.std.proofs.Common.{length, Err, sym, ap, ◌∙◌}
use Rattle.std.proofs.lemmas.Result.{err_from_is_err_and}
use Rattle.wire.specs.Items.{null_of, fitting, filled}
use Rattle.rows.proofs.Windowing.{numbered, unnumbered}
use Rattle.rows.proofs.window.WindowSerializer.write.Goals as goal

pub returns-in_err-number : goal.returns-in_err-number
returns-in_err-number g c =
    let w = c.args.self.now in
    let is = g.S.Serializer.items w.inner.now in
    let part = c.args.part.now in
    let p = err_from_is_err_and c.from_residual.result c.from_residual.ensures.1 in
    let e = unnumbered is w.first w.count c.args.k _ c.in_err-number.ensures in
    record {
      answer = p.1 ∙ ap Err p.2 ∙ sym (ap (λ i. null_of (fitting (length part) i)) e);
      after = sym (ap (λ i. filled (fitting (length part) i) part) e);
    }

pub returns : goal.returns
returns g c =
    let w = c.args.self.now in
    let is = g.S.Serializer.items w.inner.now in
    let part = c.args.part.now in
    let e = numbered is w.first w.count c.args.k c.in_ok-number.field-0 c.in_ok-number.ensures in
    record {
      answer = c.write_above.ensures.answer ∙ sym (ap (λ i. null_of (fitting (length part) i)) e);
      after = c.write_above.ensures.after ∙ sym (ap (λ i. filled (fitting (length part) i) part) e);
    }
