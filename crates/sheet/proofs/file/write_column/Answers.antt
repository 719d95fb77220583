use Rattle.std.proofs.Common.{◌≡◌, ◌+◌, Ok, ap, ◌∙◌, arith}
use Rattle.wire.specs.Words.{be}
use Rattle.wire.proofs.Writing.{told_fits}
use Rattle.sheet.proofs.Columns.{column_told, column_laid}
use Rattle.sheet.proofs.file.write_column.Goals as goal

pub returns : goal.returns
returns g c =
    let i = g.C.Content.item c.args.content.now in
    let b = c.args.buffer.now in
    let at = c.args.at in
    let oid = c.args.oid in
    let told = c.in_ok-at.ensures.answer ∙ told_fits at (be 4 oid) b (omega (arith, c.requires.room)) in
    let place : c.in_ok-at.at ≡ at + 4 = cc in
    let head = c.in_ok-at.ensures.after in
    record {
      answer = ap Ok (column_told i at c.in_ok-at.at oid b c.put.new.part c.write_nullable.new.part c.requires.sound c.requires.room head place c.in_ok-size.size c.in_ok-size.ensures.answer);
      after = column_laid i at c.in_ok-at.at oid b c.put.new.part c.write_nullable.new.part c.requires.sound c.requires.room head place c.in_ok-size.ensures.after;
    }
