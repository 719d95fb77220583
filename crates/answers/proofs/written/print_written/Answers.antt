use Rattle.std.proofs.Common.{take, Ok, vec_items, sym, ap, ◌∙◌}
use Rattle.answers.specs.Plain.{wrote, held}
use Rattle.answers.proofs.Answering.{says, take_min}
use Rattle.answers.proofs.written.print_written.Goals as goal

pub returns-in-Ok : goal.returns-in-Ok
returns-in-Ok c =
    let part = c.args.part.now in
    says vec_items c.print_bytes.result _ _
    (ap (λ n. wrote (Ok (take n part))) c.min.ensures ∙ ap (λ bs. wrote (Ok bs)) (take_min c.in-Ok.n part) ∙ ap (λ w. wrote (held w part)) (sym c.in-Ok.is))
    c.print_bytes.ensures
