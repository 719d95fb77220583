use Rattle.std.proofs.Common.{◌≡◌, ◌+◌, ◌-◌, ◌*◌, ◌^◌, ◌<◌, ◌≤◌, length}
use Rattle.array.specs.Recv.{product_from}
use Rattle.arrayview.proofs.read.read_product.Given as goal

-- what is left gives the answer
abbrev pub invariant-loop-i : goal.invariant-loop-i
invariant-loop-i l =
    (l.product < 2 ^ 31)
    × (8 * l.i ≤ length l.buf)
    × (product_from (l.count - l.i) l.buf (12 + 8 * l.i) l.product ≡ product_from l.count l.buf 12 1)
