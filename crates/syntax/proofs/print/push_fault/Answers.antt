use Rattle.std.proofs.Common.{◌≡◌, ◌++◌, vec_items, decimal, refl, ap, ◌∙◌}
use Rattle.std.proofs.lemmas.Slice.{pushed}
use Rattle.std.proofs.lemmas.Result.{IfOk-weaker}
use Rattle.syntax.specs.Printed.{fault_text}
use Rattle.syntax.proofs.Printing.{fault_parts}
use Rattle.syntax.proofs.print.push_fault.Goals as goal

pub returns : goal.returns
returns c =
    let f = c.args.fault in
    let out = vec_items c.args.out.now in
    let after = vec_items c.push_decimal-3.new.out in
    let at = pushed _ c.in_ok-push_decimal.ensures c.in_ok-push.was c.push.ensures.items in
    let place = c.in_ok-push_decimal-2.ensures ∙ ap (λ l. l ++ decimal f.place) at in
    let slash = pushed _ place c.in_ok-push-2.was c.push-2.ensures.items in
    let parts = fault_parts out f _ f.place _ (c.from.ensures ∙ c.number.ensures) refl c.from-2.ensures in
    IfOk-weaker
    c.push_decimal-3.result
    (λ _. after ≡ vec_items c.push-2.new.self ++ decimal c.from-2.result)
    (λ _. after ≡ out ++ fault_text f)
    (λ _ e. e ∙ ap (λ l. l ++ decimal c.from-2.result) slash ∙ parts)
    c.push_decimal-3.ensures
