use Rattle.std.proofs.Common.{None, sym, refl}
use Rattle.checkline.specs.Spelled.{bottoms}
use Rattle.naming.proofs.Naming.{no_text}
use Rattle.checkline.proofs.words.parse_bottom.Goals as goal

pub returns-in_default : goal.returns-in_default
returns-in_default c = sym (no_text None bottoms c.args.word.now refl c.in_default.ensures.cases.0)
