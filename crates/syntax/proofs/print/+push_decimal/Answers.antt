use Rattle.std.proofs.Common.{vec_items, ap, ◌∙◌, arith}
use Rattle.std.proofs.lemmas.Slice.{pushed}
use Rattle.syntax.proofs.Printing.{decimal_last, decimal_only}
use Rattle.syntax.proofs.print.+push_decimal.Goals as goal
use Rattle.syntax.proofs.print.+push_decimal.Goals.{then-n-ge10+in_ok-push_decimal, else-n-ge10}

pub returns : goal.returns
returns t c =
    let out = vec_items c.args.out.now in
    elim c.if-n-ge10.branch [
      | then-n-ge10+in_ok-push_decimal w ↦
          pushed _ (ap vec_items w.out-is ∙ w.in_ok-push_decimal.ensures) c.in_ok-push.was c.push.ensures.items
          ∙ decimal_last out c.args.n _ w.if-n-ge10.true (omega arith) (omega arith)
      | else-n-ge10 w ↦
          pushed _ (ap vec_items w.out-is) c.in_ok-push.was c.push.ensures.items
          ∙ decimal_only out c.args.n _ w.if-n-ge10.false (omega arith)
    ]
