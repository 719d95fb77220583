use Rattle.std.proofs.Common.{◌≤◌, length, sym, ap, ◌∙◌, rules}
use Rattle.syntax.specs.Parsed.{seen_pair}
use Rattle.checkline.specs.Spelled.{around_parts}
use Rattle.checkline.proofs.Spelling.{not_around}
use Rattle.checkline.proofs.words.parse_layer.Goals as goal

pub returns-in_default : goal.returns-in_default
returns-in_default c =
    let none : length c.in_ok-name.rest.now ≤ 0 = search rules in
    sym (ap around_parts (sym c.split_at_first.ensures ∙ ap seen_pair c.in_ok-name.was) ∙ not_around _ c.in_ok-name.rest.now none)
