use Rattle.std.proofs.Common.{◌≡◌, ◌<◌, length, take, sym, ◌∙◌, arith}
use Rattle.std.proofs.lemmas.List.{length-take-le, take_more_set}
use Rattle.std.proofs.lemmas.Bool.{cond-true, lt-ltb}
use Rattle.rows.proofs.table.Table.add.Goals as goal

pub returns : goal.returns
returns g c =
    let rows = c.args.self.now.rows in
    let used = c.args.self.now.used in
    let long : length (take used rows) ≡ used = length-take-le used rows (omega arith) in
    let test = lt-ltb (length (take used rows)) 64 (omega arith) in
    let room : used < length rows = omega arith in
    record { answer = sym (cond-true _ _ _ test); after = take_more_set rows used c.args.row room ∙ sym (cond-true _ _ _ test) }
