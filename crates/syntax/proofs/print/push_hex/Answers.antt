use Rattle.std.proofs.Common.{[], ◌∷◌, ◌++◌, vec_items, ap, ◌∙◌, arith}
use Rattle.std.proofs.lemmas.Slice.{pushed}
use Rattle.std.proofs.lemmas.List.{take_all}
use Rattle.std.proofs.lemmas.Result.{IfOk-from_err}
use Rattle.syntax.specs.Printed.{hex}
use Rattle.syntax.proofs.Printing.{hex_more, reads_back}
use Rattle.syntax.proofs.print.push_hex.Goals as goal

pub returns-in_err-push : goal.returns-in_err-push
returns-in_err-push c =
    record { added = IfOk-from_err _ _ c.from_residual.ensures.0; reads_back = reads_back c.args.bytes.now }

pub returns-in_err-push-2 : goal.returns-in_err-push-2
returns-in_err-push-2 c =
    record { added = IfOk-from_err _ _ c.from_residual-in_err-push-2.ensures.0; reads_back = reads_back c.args.bytes.now }

pub loop-b-preserved : goal.loop-b-preserved
loop-b-preserved c =
    let high = pushed (c.hex_digit.result ∷ []) c.loop-b.invariant c.in_ok-push.was c.push.ensures.items in
    let low = pushed (c.hex_digit-in-loop-b.result ∷ []) high c.in_ok-push-2.was c.push-in-loop-b.ensures.items in
    low ∙ hex_more (vec_items c.args.out.now) c.args.bytes.now c.loop-b.b-index _ _ (omega arith) c.hex_digit.ensures c.hex_digit-in-loop-b.ensures

pub returns : goal.returns
returns c =
    let bs = c.args.bytes.now in
    record {
      added = c.loop-b.invariant ∙ ap (λ l. vec_items c.args.out.now ++ hex l) (take_all c.loop-b.b-index bs (omega arith));
      reads_back = reads_back bs;
    }
