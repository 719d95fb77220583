use Rattle.std.proofs.Common.{◌≡◌, ◌^◌, ◌<◌, drop}
use Rattle.content.specs.Rules.{product_of}
use Rattle.content.proofs.array_content.multiply.Given as goal

abbrev pub invariant-loop-i : goal.invariant-loop-i
invariant-loop-i l = (l.product < 2 ^ 31) × (product_of 0 1 l.dims ≡ product_of l.i l.product (drop l.i l.dims))
