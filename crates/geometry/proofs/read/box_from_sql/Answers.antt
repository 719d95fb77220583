use Rattle.wire.proofs.Reading.{octets_typed}
use Rattle.geometry.proofs.Laws.{box_reads}
use Rattle.geometry.proofs.read.box_from_sql.Goals as goal

pub returns : goal.returns
returns c = record { answer = c.read_box.ensures; reads = box_reads c.args.buf.now (octets_typed c.args.buf.now c.type_inv.buf) }
