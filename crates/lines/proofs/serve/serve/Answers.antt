use Rattle.std.proofs.Common.{vec_items}
use Rattle.std.proofs.lemmas.Result.{IfOk-weaker}
use Rattle.lines.specs.Reply.{reply_to}
use Rattle.lines.proofs.Serving.{served_on, served_all}
use Rattle.lines.proofs.serve.serve.Goals as goal

pub returns-then-branch-eq0-clause-answers : goal.returns-then-branch-eq0-clause-answers
returns-then-branch-eq0-clause-answers g c =
    let p = g.P.Requests in
    let reply = reply_to p.LONGEST_LINE p.named p.alone in
    let r = g.R.Read.remaining c.args.input.now in
    let r1 = g.R.Read.remaining c.loop.input in
    let r2 = g.R.Read.remaining c.answer_some.new.input in
    let w = g.W.Write.contents c.args.output.now in
    let w1 = g.W.Write.contents c.loop.output in
    let w2 = g.W.Write.contents c.answer_some.new.output in
    let held = vec_items c.answer_some.new.lines.line in
    let e = c.in_ok-answer_some.ensures in
    let now = served_on p.LONGEST_LINE reply r r1 r2 w w1 w2 (vec_items c.loop.lines.line) held e.1 e.2 c.loop.invariant.1 e.3 e.5 e.6 in
    let end = e.4 c.if-branch-eq0.true in
    IfOk-weaker c.answer_rest.result _ _ (λ _ d. served_all p.LONGEST_LINE reply r r2 w w2 _ held d.0 now end d.1 d.2) c.answer_rest.ensures

pub loop-preserved : goal.loop-preserved
loop-preserved g c =
    let p = g.P.Requests in
    let reply = reply_to p.LONGEST_LINE p.named p.alone in
    let r = g.R.Read.remaining c.args.input.now in
    let r1 = g.R.Read.remaining c.loop.input in
    let r2 = g.R.Read.remaining c.answer_some.new.input in
    let w = g.W.Write.contents c.args.output.now in
    let w1 = g.W.Write.contents c.loop.output in
    let w2 = g.W.Write.contents c.answer_some.new.output in
    let held = vec_items c.answer_some.new.lines.line in
    let e = c.in_ok-answer_some.ensures in
    (e.0, served_on p.LONGEST_LINE reply r r1 r2 w w1 w2 (vec_items c.loop.lines.line) held e.1 e.2 c.loop.invariant.1 e.3 e.5 e.6)
