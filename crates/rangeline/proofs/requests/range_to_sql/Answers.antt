use Rattle.std.proofs.Common.{[], length, vec_items, ap, ◌∙◌}
use Rattle.answers.proofs.Answering.{says}
use Rattle.answers.specs.Plain.{room}
use Rattle.rangeline.specs.Ranges.{bound_in, lower_in, range_words}
use Rattle.rangeline.proofs.requests.range_to_sql.Goals as goal

pub returns : goal.returns
returns c =
    let n = room (length c.args.argument.now) in
    says vec_items c.write_range.result _ _
    (ap (λ m. lower_in m c.in-Some.upper.now (bound_in [] c.in-Some.lower.now)) c.in_ok-part.ensures
    ∙ ap (range_words n) c.in-Some.ensures)
    c.write_range.ensures
