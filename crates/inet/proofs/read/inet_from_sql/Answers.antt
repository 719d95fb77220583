use Rattle.std.proofs.Common.{arith}
use Rattle.wire.proofs.Reading.{uint_never, uint_is, octets_typed}
use Rattle.inet.proofs.Laws.{laid_out}
use Rattle.inet.proofs.Steps.{right, recv_4, recv_6}
use Rattle.inet.proofs.read.inet_from_sql.Goals as goal

pub returns-in_err-high-in-3 : goal.returns-in_err-high-in-3
returns-in_err-high-in-3 c =
    let r = right 128 16 c.args.buf.now _ c.in_ok-netmask-in-3.ensures in
    absurd (uint_never 8 c.args.buf.now 4 (omega (arith, r.long)) _ c.in_err-high-in-3.ensures)

pub returns-in_err-low-in-3 : goal.returns-in_err-low-in-3
returns-in_err-low-in-3 c =
    let r = right 128 16 c.args.buf.now _ c.in_ok-netmask-in-3.ensures in
    absurd (uint_never 8 c.args.buf.now 12 (omega (arith, r.long)) _ c.in_err-low-in-3.ensures)

pub returns-in_ok-addr-in-2 : goal.returns-in_ok-addr-in-2
returns-in_ok-addr-in-2 c =
    let bs = c.args.buf.now in
    let mask = c.in_ok-netmask-in-2.ensures in
    let r = right 32 4 bs _ mask in
    let n = uint_is 4 bs 4 (omega (arith, r.long)) _ c.in_ok-addr-in-2.ensures in
    let all = recv_4 bs c.if-buf-lt4.false _ c.in-2.is mask in
    let made = c.new-in-2.ensures in
    record { answer = cc; layout = laid_out bs (octets_typed bs c.type_inv.buf) }

pub returns-in_ok-low-in-3 : goal.returns-in_ok-low-in-3
returns-in_ok-low-in-3 c =
    let bs = c.args.buf.now in
    let mask = c.in_ok-netmask-in-3.ensures in
    let r = right 128 16 bs _ mask in
    let m = uint_is 8 bs 4 (omega (arith, r.long)) _ c.in_ok-high-in-3.ensures in
    let n = uint_is 8 bs 12 (omega (arith, r.long)) _ c.in_ok-low-in-3.ensures in
    let all = recv_6 bs c.if-buf-lt4.false _ c.in-3.is mask in
    let made = c.new-in-3.ensures in
    record { answer = cc; layout = laid_out bs (octets_typed bs c.type_inv.buf) }
