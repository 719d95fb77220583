use Rattle.checkline.proofs.Layering.{no_layers}
use Rattle.checkline.proofs.piles.ZeroMost.judge_over.Goals as goal

pub returns : goal.returns
returns g c = no_layers c.args._layers.now _ c.args.bytes.now c.requires c.judge.ensures.answer
