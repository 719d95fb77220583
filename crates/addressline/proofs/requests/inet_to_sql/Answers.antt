use Rattle.std.proofs.Common.{replicate, Ok, vec_items, sym, ap, ◌∙◌}
use Rattle.answers.proofs.Answering.{says, written_is}
use Rattle.answers.specs.Plain.{wrote, answered}
use Rattle.inet.specs.Layout.{inet_layout}
use Rattle.wire.specs.Encoding.{Encoding, room_for}
use Rattle.addressline.proofs.Addresses.{layout_fits}
use Rattle.addressline.proofs.requests.inet_to_sql.Goals as goal

pub returns : goal.returns
returns c =
    let i = c.in-Some.inet in
    let a = c.addr.result in
    let mask = c.netmask.result in
    let e : Encoding = room_for 20 (Ok (inet_layout a mask)) in
    says vec_items c.print_written.result _ _
    (ap wrote (written_is e (replicate 20 0) c.inet_to_sql-written.ensures.answer c.inet_to_sql-written.ensures.after ∙ layout_fits a mask)
    ∙ ap (λ b. wrote (Ok (inet_layout b mask))) c.addr.ensures
    ∙ ap (λ m. wrote (Ok (inet_layout i.addr m))) c.netmask.ensures
    ∙ ap (answered (λ j. wrote (Ok (inet_layout j.addr j.netmask)))) (sym c.in-Some.is ∙ c.in_ok-inet.ensures))
    c.print_written.ensures
