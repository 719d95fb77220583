use Rattle.std.proofs.Common.{ap, ◌∙◌}
use Rattle.record.specs.Recv.{record_recv}
use Rattle.agreement.proofs.Steps.{book_kept}
use Rattle.agreement.proofs.read.Goals as goal

pub returns : goal.returns
returns c = record {
  answer = c.record_from_sql.ensures.answer ∙ ap record_recv c.bytes.ensures;
  book = book_kept c.args.sheet.now c.args.buffer.now;
}
