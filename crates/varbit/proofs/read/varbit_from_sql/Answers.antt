use Rattle.wire.proofs.Reading.{octets_typed}
use Rattle.varbit.proofs.Laws.{only_layouts}
use Rattle.varbit.proofs.read.varbit_from_sql.Goals as goal

pub returns : goal.returns
returns c = record { answer = c.read_varbit.ensures; only_layouts = only_layouts c.args.buf.now (octets_typed c.args.buf.now c.type_inv.buf) }
