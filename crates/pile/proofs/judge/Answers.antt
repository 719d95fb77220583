use Rattle.pile.proofs.Agree.{reads_exactly}
use Rattle.pile.proofs.judge.Goals as goal

pub returns : goal.returns
returns g c = record { answer = c.validate.ensures; reads = reads_exactly (g.V.Validator.verdict c.args.validator.now) c.args.bytes.now }
