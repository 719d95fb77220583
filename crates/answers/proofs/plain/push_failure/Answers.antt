use Rattle.std.proofs.Common.{[], ◌∷◌, vec_items, refl}
use Rattle.std.proofs.lemmas.Slice.{pushed}
use Rattle.syntax.specs.Printed.{fault_text}
use Rattle.answers.specs.Plain.{failure}
use Rattle.answers.proofs.Texts.{behind}
use Rattle.answers.proofs.plain.push_failure.Goals as goal

pub returns : goal.returns
returns c =
    let f = c.args.fault in
    behind c.push_fault.result (33 ∷ []) (vec_items c.args.out.now) (vec_items c.push.new.self) (vec_items c.push_fault.new.out) (fault_text f) (failure f)
    (pushed (33 ∷ []) refl c.in_ok-push.was c.push.ensures.items)
    refl
    c.push_fault.ensures
