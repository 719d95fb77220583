use Rattle.wire.proofs.Reading.{octets_typed}
use Rattle.geometry.proofs.Laws.{point_reads}
use Rattle.geometry.proofs.read.point_from_sql.Goals as goal

pub returns : goal.returns
returns c = record { answer = c.read_point.ensures; reads = point_reads c.args.buf.now (octets_typed c.args.buf.now c.type_inv.buf) }
