use Rattle.std.proofs.Common.{◌-◌, length, take, sym, ap, ◌∙◌, ⊎_elim, arith}
use Rattle.std.proofs.lemmas.List.{take_all}
use Rattle.std.proofs.lemmas.Bool.{cases_lt}
use Rattle.sheet.proofs.sheet.Sheet.bytes.Goals as goal

pub returns : goal.returns
returns c =
    let b = c.args.buffer.now in
    let fill = c.args.self.now.fill in
    ⊎_elim
    (λ less. take_all (c.min-end.result - 0) b (omega (arith, c.min-end.ensures)) ∙ sym (take_all fill b (omega arith)))
    (λ fits. ap (λ n. take n b) (omega (arith, c.min-end.ensures)))
    (cases_lt (length b) fill)
