use Rattle.std.proofs.Common.{ap, ◌∙◌}
use Rattle.array.specs.Recv.{at_values}
use Rattle.wire.specs.Cursor.{read_nullable}
use Rattle.wire.specs.Words.{then}
use Rattle.cabi.specs.Sums.{add_value, sum_to_end}
use Rattle.cabi.proofs.reads.read_array.Goals as goal

pub returns : goal.returns
returns c =
    c.sum_parts.ensures add_value (λ sum item r p. p)
    ∙ ap (λ s. sum_to_end read_nullable add_value s 0) c.values.ensures
    ∙ ap (λ r. then r (λ o. sum_to_end read_nullable add_value (at_values o) 0)) c.in_ok-array_from_sql.ensures.answer
