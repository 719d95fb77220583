use Rattle.std.proofs.Common.{◌++◌, ap, ◌∙◌}
use Rattle.shapeline.specs.Words.{point_text}
use Rattle.shapeline.proofs.shapes.print_point.Goals as goal

pub returns : goal.returns
returns c = c.in_ok-push_point.ensures ∙ ap (λ l. l ++ point_text 44 c.args.point) c.in_ok-out.ensures.items
