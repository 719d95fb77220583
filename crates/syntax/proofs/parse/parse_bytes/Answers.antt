use Rattle.std.proofs.Common.{rules}
use Rattle.syntax.proofs.Parsing.{bytes_marked}
use Rattle.syntax.proofs.parse.parse_bytes.Goals as goal

pub returns-in-120 : goal.returns-in-120
returns-in-120 c = search (rules, bytes_marked)
