use Rattle.std.proofs.Common.{◌≡◌, ◌-◌, ◌^◌, min, length, take, drop}
use Rattle.serializer.specs.Lists.{values, first_fault}
use Rattle.array.specs.Layout.{elements, has_null}
use Rattle.array.proofs.write.measure.Given as goal

abbrev pub invariant-loop-k : goal.invariant-loop-k
invariant-loop-k g l =
    let is = g.S.Serializer.items l.serializer in
    (first_fault (drop l.k is) ≡ first_fault is)
    × (l.bytes ≡ min (length (elements (values (take l.k is)))) (2 ^ 64 - 1))
    × (l.nulls ≡ has_null (values (take l.k is)))
