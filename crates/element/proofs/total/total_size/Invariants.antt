use Rattle.std.proofs.Common.{◌≡◌, ◌-◌, ◌^◌, min, map, take}
use Rattle.element.specs.Totals.{extents}
use Rattle.element.proofs.total.total_size.Given as goal

abbrev pub invariant-loop-element : goal.invariant-loop-element
invariant-loop-element g l = l.bytes ≡ min (extents (map g.T.Element.value (take l.element-index l.run))) (2 ^ 64 - 1)
