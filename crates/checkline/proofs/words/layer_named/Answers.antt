use Rattle.std.proofs.Common.{None, sym, refl}
use Rattle.checkline.specs.Spelled.{layers}
use Rattle.naming.proofs.Naming.{no_text}
use Rattle.checkline.proofs.words.layer_named.Goals as goal

pub returns-in_default : goal.returns-in_default
returns-in_default c = sym (no_text None layers c.args.name.now refl c.in_default.ensures.cases.0)
