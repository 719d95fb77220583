use Rattle.std.proofs.Common.{sym}
use Rattle.fault.proofs.Others.{foreign_is}
use Rattle.fault.proofs.numbers.Foreign.new.Goals as goal

pub returns-clause-made : goal.returns-clause-made
returns-clause-made c = sym (foreign_is c.args.number _)
