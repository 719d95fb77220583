use Rattle.std.proofs.Common.{[]}
use Rattle.range.proofs.Whole.{measured, range_sized}
use Rattle.range.proofs.write.range_size.Goals as goal

pub returns : goal.returns
returns g c =
    let is = g.S.Serializer.items c.args.serializer.now in
    range_sized is c.args.lower c.args.upper _ _ (measured is c.args.lower _ c.in_ok-first.ensures) (measured is c.args.upper _ c.in_ok-second.ensures) []
