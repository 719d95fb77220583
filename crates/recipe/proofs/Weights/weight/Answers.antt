use Rattle.std.proofs.Common.{Err, sym, ap, ◌∙◌, arith}
use Rattle.recipe.specs.Weights.{int4}
use Rattle.recipe.proofs.Items.{item_within, item_past}
use Rattle.recipe.proofs.Weights.weight.Goals as goal

pub returns-then-k-self : goal.returns-then-k-self
returns-then-k-self c =
    ap Err c.new.ensures ∙ sym (item_past c.args.self.now.readings.now c.args.k (omega arith))

pub returns : goal.returns
returns c =
    ap int4 c.grams.ensures ∙ sym (item_within c.args.self.now.readings.now c.args.k c.if-k-self.false)
