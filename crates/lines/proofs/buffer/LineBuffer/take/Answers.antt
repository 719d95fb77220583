use Rattle.std.proofs.Common.{ℕ, List, ◌++◌, vec_items, ap, ◌∙◌, subst}
use Rattle.std.proofs.lemmas.Result.{IfOk-weaker}
use Rattle.lines.specs.Lines.{answer_line, Taken}
use Rattle.lines.specs.Reply.{reply_to}
use Rattle.lines.proofs.Taking.{split_less, taken_line, taken_piece}
use Rattle.lines.proofs.buffer.LineBuffer.take.Goals as goal

pub loop-piece-smaller : goal.loop-piece-smaller
loop-piece-smaller g c = split_less 10 c.loop-piece.rest.now c.in-Some.piece.now c.in-Some.behind.now c.in-Some.ensures

pub loop-piece-preserved : goal.loop-piece-preserved
loop-piece-preserved g c after holds next =
    let p = g.P.Requests in
    let reply = reply_to p.LONGEST_LINE p.named p.alone in
    let held = vec_items c.loop-piece.self.line in
    let out = vec_items c.loop-piece.out in
    let mid = vec_items c.answer.new.out in
    let behind = c.in-Some.behind.now in
    let wrote = c.in_ok-answer.ensures.0 ∙ ap (λ l. out ++ answer_line reply l) c.in_ok-push.ensures in
    let on = subst (λ (l : List ℕ). Taken p.LONGEST_LINE reply l behind mid after holds) c.in_ok-answer.ensures.1 next in
    c.loop-piece.invariant after holds (taken_line p.LONGEST_LINE p.named p.alone held c.loop-piece.rest.now c.in-Some.piece.now behind out mid after holds c.in-Some.ensures wrote on)

pub returns : goal.returns
returns g c =
    let p = g.P.Requests in
    let held = vec_items c.loop-piece.self.line in
    let out = vec_items c.loop-piece.out in
    let holds = vec_items c.push-2.new.self.line in
    IfOk-weaker c.push-2.result _ _
    (λ _ kept. c.loop-piece.invariant out holds (taken_piece p.LONGEST_LINE p.named p.alone held c.loop-piece.rest.now out holds c.in_default.ensures kept))
    c.push-2.ensures
