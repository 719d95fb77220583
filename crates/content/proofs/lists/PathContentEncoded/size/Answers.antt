use Rattle.std.proofs.Common.{◌∙◌}
use Rattle.content.proofs.Counts.{path_counted}
use Rattle.content.proofs.lists.PathContentEncoded.size.Goals as goal

pub returns : goal.returns
returns c = c.path_size.ensures c.args.self.now.closed ∙ path_counted c.args.self.now.closed c.args.self.now.points.now
