use Rattle.checkline.specs.Bottoms.{bottom_verdict}
use Rattle.checkline.proofs.Layering.{reads_all}
use Rattle.checkline.proofs.piles.judge_pile.Goals as goal

pub returns : goal.returns
returns c = record { answer = c.judge_over.ensures; reads = reads_all c.args.layers.now (bottom_verdict c.args.bottom) c.args.bytes.now c.judge_over.ensures }
