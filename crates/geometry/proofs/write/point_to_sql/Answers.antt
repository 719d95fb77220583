use Rattle.double.specs.Points.{point}
use Rattle.geometry.proofs.Laws.{point_read, point_distinct}
use Rattle.geometry.proofs.write.point_to_sql.Goals as goal

pub returns-clause-written_back : goal.returns-clause-written_back
returns-clause-written_back c = point_read (point c.args.x c.args.y) (c.well_formed.0.1, c.well_formed.1.0.1)

pub returns-clause-distinct : goal.returns-clause-distinct
returns-clause-distinct c = point_distinct (point c.args.x c.args.y) (point_read (point c.args.x c.args.y) (c.well_formed.0.1, c.well_formed.1.0.1))
