use Rattle.std.proofs.Common.{◌≡◌, ◌+◌, length, Ok, sym, ap, ◌∙◌, arith}
use Rattle.std.proofs.lemmas.List.{take_rest}
use Rattle.wire.proofs.Taking.{ended_ok}
use Rattle.varbit.specs.Layout.{begun}
use Rattle.varbit.proofs.Laws.{recv_is}
use Rattle.varbit.proofs.read.read_varbit.Goals as goal

pub returns : goal.returns
returns c =
    let bs = c.args.buf.now in
    let n = c.in_ok-len.len in
    let last = ended_ok bs _ tt _ (sym c.in_ok-read_end.ensures) in
    let long : length bs ≡ 4 + begun n = omega (arith, last.0) in
    ap (λ l. Ok (n, l)) (take_rest bs 4) ∙ sym (recv_is bs n c.in_ok-len.ensures long)
