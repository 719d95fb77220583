use Rattle.std.proofs.Common.{◌<◌, ◌≤◌, length, rules}
use Rattle.checkline.proofs.Layering.{innermost_below, no_layers}
use Rattle.checkline.proofs.piles.MoreMost.judge_over.Goals as goal

pub returns-in-empty : goal.returns-in-empty
returns-in-empty g c =
    let none : length c.args.layers.now ≤ 0 = search rules in
    no_layers c.args.layers.now _ c.args.bytes.now none c.judge.ensures.answer

pub returns-in-len1-up : goal.returns-in-len1-up
returns-in-len1-up g c =
    let some : 0 < length c.args.layers.now = search rules in
    innermost_below c.args.layers.now _ _ c.args.bytes.now some c.judge_over.ensures
