use Rattle.std.proofs.Common.{Err, sym, ap, ◌∙◌}
use Rattle.std.proofs.lemmas.Result.{err_from_is_err_and}
use Rattle.wire.specs.Items.{size_of}
use Rattle.rows.specs.Tables.{rows_of}
use Rattle.layer.proofs.Itemized.{item_of_row, item_of_none}
use Rattle.layer.proofs.table_layer.row_size.Goals as goal

pub returns-in_err-row : goal.returns-in_err-row
returns-in_err-row g c =
    let p = err_from_is_err_and c.from_residual.result c.from_residual.ensures.1 in
    p.1 ∙ ap Err p.2 ∙ sym (ap size_of (item_of_none (g.K.RowKind.encoding c.args.kind.now (g.S.Serializer.items c.args.inner.now)) (rows_of c.args.table.now) c.args.k _ c.in_err-row.ensures))

pub returns : goal.returns
returns g c =
    c.sealed_size.ensures ∙ sym (ap size_of (item_of_row (g.K.RowKind.encoding c.args.kind.now (g.S.Serializer.items c.args.inner.now)) (rows_of c.args.table.now) c.args.k c.in_ok-row.row c.in_ok-row.ensures))
