use Rattle.std.proofs.Common.{ap, ◌∙◌}
use Rattle.path.specs.Recv.{read_point, at_points}
use Rattle.validator.specs.Verdicts.{to_end}
use Rattle.wire.specs.Words.{then}
use Rattle.bottoms.specs.Verdicts.{pass}
use Rattle.bottoms.proofs.rows.PathValidator.validate.Goals as goal

pub returns : goal.returns
returns c =
    c.read_to_end.ensures
    ∙ ap (to_end read_point pass) c.points.ensures
    ∙ ap (λ r. then r (λ o. to_end read_point pass (at_points o))) c.in_ok-path_from_sql.ensures.answer
