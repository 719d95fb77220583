use Rattle.std.proofs.Common.{sym, ◌∙◌}
use Rattle.rows.specs.Rows.{range_row}
use Rattle.rows.specs.Tables.{rows_of}
use Rattle.layer.proofs.Itemized.{items_length}
use Rattle.layer.proofs.range_layer.RangeLayerSerializer.count.Goals as goal

pub returns : goal.returns
returns g c = let l = c.args.self.now in c.len.ensures ∙ sym (items_length (range_row (g.S.Serializer.items l.inner)) 0 (rows_of l.table))
