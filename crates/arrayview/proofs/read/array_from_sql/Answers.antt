use Rattle.std.proofs.Common.{rules}
use Rattle.wire.proofs.Reading.{octets_typed}
use Rattle.array.proofs.Back.{reads_back}
use Rattle.array.proofs.Forms.{only_forms}
use Rattle.arrayview.proofs.read.array_from_sql.Goals as goal

pub returns-in_err-count : goal.returns-in_err-count
returns-in_err-count c =
    let bs = c.args.buf.now in
    record { answer = search rules; reads_back = reads_back bs; only_forms = only_forms bs (octets_typed bs c.type_inv.buf) }

pub returns-in_err-flag : goal.returns-in_err-flag
returns-in_err-flag c =
    let bs = c.args.buf.now in
    record { answer = search rules; reads_back = reads_back bs; only_forms = only_forms bs (octets_typed bs c.type_inv.buf) }

pub returns-in_err-oid : goal.returns-in_err-oid
returns-in_err-oid c =
    let bs = c.args.buf.now in
    record { answer = search rules; reads_back = reads_back bs; only_forms = only_forms bs (octets_typed bs c.type_inv.buf) }

pub returns-in_err-product : goal.returns-in_err-product
returns-in_err-product c =
    let bs = c.args.buf.now in
    record { answer = search rules; reads_back = reads_back bs; only_forms = only_forms bs (octets_typed bs c.type_inv.buf) }

pub returns : goal.returns
returns c =
    let bs = c.args.buf.now in
    record { answer = search rules; reads_back = reads_back bs; only_forms = only_forms bs (octets_typed bs c.type_inv.buf) }
