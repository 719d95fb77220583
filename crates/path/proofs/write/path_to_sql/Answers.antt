use Rattle.path.proofs.Laws.{written_back, distinct}
use Rattle.path.proofs.write.path_to_sql.Goals as goal

pub returns : goal.returns
returns c = record { answer = c.encode.ensures.answer; after = c.encode.ensures.after; written_back = written_back c.args.closed c.args.points.now; distinct = distinct c.args.closed c.args.points.now }
