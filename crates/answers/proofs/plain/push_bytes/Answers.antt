use Rattle.std.proofs.Common.{[], ◌∷◌, vec_items, refl}
use Rattle.std.proofs.lemmas.Slice.{pushed}
use Rattle.syntax.specs.Printed.{hex, byte_string}
use Rattle.answers.proofs.Texts.{behind}
use Rattle.answers.proofs.plain.push_bytes.Goals as goal

pub returns : goal.returns
returns c =
    let bs = c.args.bytes.now in
    behind c.push_hex.result (120 ∷ []) (vec_items c.args.out.now) (vec_items c.push.new.self) (vec_items c.push_hex.new.out) (hex bs) (byte_string bs)
    (pushed (120 ∷ []) refl c.in_ok-push.was c.push.ensures.items)
    refl
    c.push_hex.ensures.added
