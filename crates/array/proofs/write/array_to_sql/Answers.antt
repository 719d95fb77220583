use Rattle.serializer.specs.Lists.{values}
use Rattle.array.proofs.Distinct.{distinct}
use Rattle.array.proofs.Written.{all_short, written_back}
use Rattle.array.proofs.write.array_to_sql.Goals as goal

pub returns : goal.returns
returns g c =
    let is = g.S.Serializer.items c.args.serializer.now in
    let short = all_short is (g.S.Serializer.short c.args.serializer.now) in
    record {
      answer = c.encode.ensures.answer;
      after = c.encode.ensures.after;
      written_back = written_back c.args.dims.now c.args.oid (values is) short;
      distinct = distinct c.args.dims.now c.args.oid (values is);
    }
