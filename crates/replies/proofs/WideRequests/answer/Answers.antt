use Rattle.std.proofs.Common.{vec_items, sym, refl}
use Rattle.answers.proofs.Answering.{says}
use Rattle.answers.specs.Plain.{bad_request}
use Rattle.naming.proofs.Naming.{NoneOf, unnamed, no_text}
use Rattle.replies.specs.Reply.{requests}
use Rattle.replies.proofs.WideRequests.answer.Goals as goal

pub returns-in_default : goal.returns-in_default
returns-in_default c =
    says vec_items c.bad_request.result _ _
    (sym (no_text bad_request (requests c.args.argument.now) c.args.name.now refl c.in_default.ensures.cases.0))
    c.bad_request.ensures

pub returns-in_default-name : goal.returns-in_default-name
returns-in_default-name c =
    let w = c.in_default-name in
    let none : NoneOf (requests c.args.argument.now) c.in-Ok.name.now = search parts 40 in
    says vec_items c.bad_request-in_default-name.result _ _
    (sym (unnamed bad_request (requests c.args.argument.now) c.args.name.now c.in-Ok.name.now c.in-Ok.ensures.cases.0 none))
    c.bad_request-in_default-name.ensures
