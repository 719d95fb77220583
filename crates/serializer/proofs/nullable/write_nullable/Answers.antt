use Rattle.std.proofs.Common.{Ok, sym, ap, ◌∙◌, arith}
use Rattle.wire.specs.Words.{be}
use Rattle.wire.proofs.Writing.{laid_fits}
use Rattle.serializer.proofs.Written.{item_told, item_laid}
use Rattle.serializer.proofs.nullable.write_nullable.Goals as goal

pub returns-in_ok-write-in-Some : goal.returns-in_ok-write-in-Some
returns-in_ok-write-in-Some g c =
    let size = sym c.in_ok-size.ensures ∙ ap Ok c.in-Some.is in
    let part = c.args.part.now in
    let head = c.put-in-Some.ensures.after ∙ laid_fits 0 (be 4 c.in-Some.length) part (omega arith) in
    record {
      answer = item_told _ _ part _ _ size c.if-part-length.false head c.write.ensures.after;
      after = item_laid _ _ part _ _ size c.if-part-length.false head c.write.ensures.after;
    }
