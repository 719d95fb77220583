use Rattle.recipe.proofs.Items.{length_weights}
use Rattle.recipe.proofs.WeightsSerializer.count.Goals as goal

pub returns : goal.returns
returns c = simp length_weights
