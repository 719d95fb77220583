use Rattle.std.proofs.Common.{ap, ◌∙◌}
use Rattle.std.specs.Option.{ok_or}
use Rattle.rows.specs.Tables.{rows_of}
use Rattle.rows.proofs.Rowing.{row_got}
use Rattle.rows.proofs.table.Table.row.Goals as goal

pub returns : goal.returns
returns g c =
    let found = c.get.ensures.lookup in
    c.ok_or.ensures.value ∙ ap (λ o. ok_or o c.new.result) c.copied.ensures ∙ row_got (rows_of c.args.self.now) c.args.k c.args.k c.get.result c.new.result found.0 found.1 c.new.ensures
