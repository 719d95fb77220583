use Rattle.std.proofs.Common.{◌≡◌, ◌++◌, vec_items, sym, ap, ◌∙◌}
use Rattle.std.proofs.lemmas.Result.{IfOk-weaker}
use Rattle.syntax.specs.Printed.{hex}
use Rattle.wire.proofs.Wording.{be_8}
use Rattle.wire.specs.Words.{be}
use Rattle.shapeline.specs.Words.{double_text}
use Rattle.shapeline.proofs.words.push_double.Goals as goal

pub returns : goal.returns
unfolding double_text
returns c =
    let out = vec_items c.args.out.now in
    let after = vec_items c.push_hex.new.out in
    let bytes = c.to_be_bytes.result in
    IfOk-weaker
    c.push_hex.result
    (λ _. after ≡ out ++ hex bytes)
    (λ _. after ≡ out ++ double_text c.args.x)
    (λ _ e. e ∙ ap (λ l. out ++ hex l) (c.to_be_bytes.ensures ∙ sym (be_8 c.to_word.result)) ∙ ap (λ w. out ++ hex (be 8 w)) c.to_word.ensures.word)
    c.push_hex.ensures.added
