use Rattle.std.proofs.Common.{◌≡◌, [], vec_items}
use Rattle.lines.specs.Reply.{reply_to}
use Rattle.lines.proofs.Serving.{Served}
use Rattle.lines.proofs.serve.serve.Given as goal

abbrev pub invariant-loop : goal.invariant-loop
invariant-loop g l =
    let p = g.P.Requests in
    (vec_items l.out ≡ [])
    × Served p.LONGEST_LINE (reply_to p.LONGEST_LINE p.named p.alone) (g.R.Read.remaining l.initial.input) (g.R.Read.remaining l.input) (g.W.Write.contents l.initial.output) (g.W.Write.contents l.output) (vec_items l.lines.line)
