use Rattle.std.proofs.Common.{◌≡◌, [], ◌∷◌, ◌++◌, vec_items, decimal, refl, ap, ◌∙◌}
use Rattle.std.proofs.lemmas.Slice.{pushed}
use Rattle.std.proofs.lemmas.Result.{IfOk-weaker}
use Rattle.answers.specs.Plain.{signed_text}
use Rattle.answers.proofs.Signs.{minus, plain}
use Rattle.answers.proofs.plain.push_signed.Goals as goal
use Rattle.answers.proofs.plain.push_signed.Goals.{then-n-lt0+in_ok-push, else-n-lt0}

pub returns : goal.returns
returns c =
    let n = c.args.n in
    let out = vec_items c.args.out.now in
    let after = vec_items c.push_decimal.new.out in
    let before = vec_items c.if-n-lt0.out in
    let digits = c.from.result in
    let size = c.from.ensures ∙ c.unsigned_abs.ensures.value in
    let signed : before ++ decimal digits ≡ out ++ signed_text n =
    elim c.if-n-lt0.branch [
      | then-n-lt0+in_ok-push w ↦
          ap (λ l. l ++ decimal digits) (ap vec_items w.out-is ∙ pushed (45 ∷ []) refl w.in_ok-push.was w.push.ensures.items)
          ∙ minus out n digits c.ranges.n w.if-n-lt0.true size
      | else-n-lt0 w ↦ ap (λ v. vec_items v ++ decimal digits) w.out-is ∙ plain out n digits c.ranges.n w.if-n-lt0.false size
    ] in
    IfOk-weaker
    c.push_decimal.result
    (λ _. after ≡ before ++ decimal digits)
    (λ _. after ≡ out ++ signed_text n)
    (λ _ e. e ∙ signed)
    c.push_decimal.ensures
