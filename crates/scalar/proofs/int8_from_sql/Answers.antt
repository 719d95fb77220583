use Rattle.std.proofs.Common.{refl, w64, rules}
use Rattle.wire.proofs.Reading.{octets_typed}
use Rattle.scalar.proofs.Exact.{exactly}
use Rattle.scalar.proofs.int8_from_sql.Goals as goal

pub returns : goal.returns
returns c = let bs = c.args.buf.now in record { answer = search rules; exactly = exactly w64 8 refl bs (octets_typed bs c.type_inv.buf) }
