use Rattle.wire.proofs.Reading.{octets_typed}
use Rattle.hstore.proofs.Laws.{reads_back, only_forms}
use Rattle.hstoreview.proofs.read.hstore_from_sql.Goals as goal

pub returns : goal.returns
returns c =
    let bs = c.args.buf.now in
    record { answer = c.open.ensures; reads_back = reads_back bs; only_forms = only_forms bs (octets_typed bs c.type_inv.buf) }
