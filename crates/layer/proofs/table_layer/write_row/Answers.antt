use Rattle.std.proofs.Common.{length, Err, sym, ap, ◌∙◌}
use Rattle.std.proofs.lemmas.Result.{err_from_is_err_and}
use Rattle.wire.specs.Items.{null_of, fitting, filled}
use Rattle.rows.specs.Tables.{rows_of}
use Rattle.layer.proofs.Itemized.{item_of_row, item_of_none}
use Rattle.layer.proofs.table_layer.write_row.Goals as goal

pub returns-in_err-row : goal.returns-in_err-row
returns-in_err-row g c =
    let part = c.args.part.now in
    let p = err_from_is_err_and c.from_residual.result c.from_residual.ensures.1 in
    let item = item_of_none (g.K.RowKind.encoding c.args.kind.now (g.S.Serializer.items c.args.inner.now)) (rows_of c.args.table.now) c.args.k _ c.in_err-row.ensures in
    record { answer = p.1 ∙ ap Err p.2 ∙ sym (ap (λ i. null_of (fitting (length part) i)) item); after = sym (ap (λ i. filled (fitting (length part) i) part) item) }

pub returns : goal.returns
returns g c =
    let part = c.args.part.now in
    let item = item_of_row (g.K.RowKind.encoding c.args.kind.now (g.S.Serializer.items c.args.inner.now)) (rows_of c.args.table.now) c.args.k c.in_ok-row.row c.in_ok-row.ensures in
    record {
      answer = c.write_sealed.ensures.answer ∙ sym (ap (λ i. null_of (fitting (length part) i)) item);
      after = c.write_sealed.ensures.after ∙ sym (ap (λ i. filled (fitting (length part) i) part) item);
    }
