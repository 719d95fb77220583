use Rattle.range.proofs.Layouts.{written_back, distinct}
use Rattle.range.proofs.write.range_to_sql.Goals as goal

pub returns : goal.returns
returns g c =
    let is = g.S.Serializer.items c.args.serializer.now in
    let short = g.S.Serializer.short c.args.serializer.now in
    record {
      answer = c.encode.ensures.answer;
      after = c.encode.ensures.after;
      written_back = written_back is short c.args.lower c.args.upper;
      distinct = distinct is short c.args.lower c.args.upper;
    }
