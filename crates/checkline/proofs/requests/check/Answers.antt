use Rattle.std.proofs.Common.{◌≤◌, length, vec_items, sym, ap, ◌∙◌, subst}
use Rattle.std.specs.Option.{option_map}
use Rattle.checkline.specs.Spelled.{most_layers}
use Rattle.checkline.proofs.Spelling.{few_layers}
use Rattle.checkline.proofs.requests.check.Goals as goal

pub judge_pile-requires : goal.judge_pile-requires
judge_pile-requires c =
    let read = sym c.in_ok-layers.ensures ∙ ap (option_map (λ p. (vec_items p.0, p.1))) c.in-Some-2.is in
    subst (λ ls. length ls ≤ most_layers) (sym c.deref.ensures.value) (few_layers c.in-Some.pile.now _ read)
