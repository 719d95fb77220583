use Rattle.std.proofs.Common.{ℕ, List, length, vec_items}
use Rattle.lines.specs.Lines.{Taken}
use Rattle.lines.specs.Reply.{reply_to}
use Rattle.lines.proofs.buffer.LineBuffer.take.Given as goal

-- what comes of the rest comes of all
abbrev pub invariant-loop-piece : goal.invariant-loop-piece
invariant-loop-piece g l =
    let p = g.P.Requests in
    let reply = reply_to p.LONGEST_LINE p.named p.alone in
    (after holds : List ℕ)
    → Taken p.LONGEST_LINE reply (vec_items l.self.line) l.rest (vec_items l.out) after holds
    → Taken p.LONGEST_LINE reply (vec_items l.initial.self.line) l.bytes (vec_items l.initial.out) after holds

abbrev pub decreases-loop-piece : goal.decreases-loop-piece
decreases-loop-piece g l = length l.rest
