use Rattle.texts.proofs.Items.{length_items}
use Rattle.texts.proofs.texts.TextsSerializer.count.Goals as goal

pub returns : goal.returns
returns c = simp length_items
