use Rattle.double.specs.Points.{point, corners}
use Rattle.geometry.proofs.Laws.{point_read, box_read, box_distinct}
use Rattle.geometry.proofs.write.box_to_sql.Goals as goal

pub returns-clause-written_back : goal.returns-clause-written_back
returns-clause-written_back c = box_read (corners (point c.args.x1 c.args.y1) (point c.args.x2 c.args.y2)) (c.well_formed.0.1, c.well_formed.1.0.1) (c.well_formed.1.1.0.1, c.well_formed.1.1.1.0.1)

pub returns-clause-distinct : goal.returns-clause-distinct
returns-clause-distinct c =
    let upper = point c.args.x1 c.args.y1 in
    let lower = point c.args.x2 c.args.y2 in
    box_distinct (corners upper lower) (point_read upper (c.well_formed.0.1, c.well_formed.1.0.1)) (point_read lower (c.well_formed.1.1.0.1, c.well_formed.1.1.1.0.1))
