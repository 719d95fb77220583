use Rattle.std.proofs.Common.{[], ◌∷◌, ◌++◌, codes, decimal, ap, ◌∙◌}
use Rattle.std.proofs.lemmas.List.{append_assoc}
use Rattle.std.proofs.lemmas.Slice.{pushed}
use Rattle.syntax.specs.Printed.{byte_string}
use Rattle.shapeline.proofs.varbits.print_bits.Goals as goal

pub returns : goal.returns
returns c =
    let n = decimal c.len.result in
    let bs = byte_string c.bytes.result.now in
    let count = c.in_ok-push_decimal.ensures ∙ ap (λ l. l ++ n) c.in_ok-out.ensures.items in
    let space = pushed (32 ∷ []) count c.in_ok-push.was c.push.ensures.items in
    c.in_ok-push_bytes.ensures
    ∙ ap (λ l. l ++ bs) space
    ∙ append_assoc (codes "varbit bits=" ++ n) (32 ∷ []) bs
    ∙ append_assoc (codes "varbit bits=") n (32 ∷ bs)
    ∙ ap (λ m. codes "varbit bits=" ++ (decimal m ++ (32 ∷ bs))) c.len.ensures
    ∙ ap (λ l. codes "varbit bits=" ++ (decimal c.args.bits.now.len ++ (32 ∷ byte_string l))) c.bytes.ensures
