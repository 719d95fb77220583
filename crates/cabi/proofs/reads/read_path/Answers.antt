use Rattle.std.proofs.Common.{ap, ◌∙◌}
use Rattle.path.specs.Recv.{read_point, at_points}
use Rattle.wire.specs.Words.{then}
use Rattle.cabi.specs.Sums.{add_point, sum_to_end}
use Rattle.cabi.proofs.reads.read_path.Goals as goal

pub returns : goal.returns
returns c =
    c.sum_parts.ensures add_point (λ sum item r p. p)
    ∙ ap (λ s. sum_to_end read_point add_point s 0) c.points.ensures
    ∙ ap (λ r. then r (λ o. sum_to_end read_point add_point (at_points o) 0)) c.in_ok-path_from_sql.ensures.answer
