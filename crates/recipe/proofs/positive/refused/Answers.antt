use Rattle.std.proofs.Common.{◌≡◌, ap, ◌∙◌, lit≤}
use Rattle.fault.specs.declared.numbers.Foreign.{Foreign}
use Rattle.fault.specs.declared.Rule.TheVariants.{Other}
use Rattle.fault.specs.Faults.{fault}
use Rattle.fault.proofs.Others.{foreign_is}
use Rattle.recipe.proofs.positive.refused.Goals as goal

pub returns : goal.returns
returns c =
    let is = c.in-Some.ensures.made ∙ foreign_is 128 (lit≤ tt) in
    let same : ◌≡◌ {A = Foreign} c.in-Some.number (record { number = 128; least = lit≤ tt }) = cc in
    c.new-in-Some.ensures ∙ ap (λ n. fault (Other n) 0) same
