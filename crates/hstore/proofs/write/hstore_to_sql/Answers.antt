use Rattle.texts.specs.Places.{pool_pair}
use Rattle.hstore.proofs.Laws.{written_back, distinct}
use Rattle.hstore.proofs.write.hstore_to_sql.Goals as goal

pub returns : goal.returns
returns c =
    let ps = pool_pair c.args.pools in
    let es = c.args.entries.now in
    record { answer = c.encode.ensures.answer; after = c.encode.ensures.after; written_back = written_back ps es; distinct = distinct ps es }
