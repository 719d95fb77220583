use Rattle.std.proofs.Common.{◌≡◌, ◌+◌, length, take, drop, None}
use Rattle.wire.specs.Bytes.{put}
use Rattle.serializer.specs.Lists.{values, first_fault}
use Rattle.array.specs.Layout.{elements}
use Rattle.array.proofs.write.write_elements.Given as goal

abbrev pub invariant-loop-k : goal.invariant-loop-k
invariant-loop-k g l =
    let is = g.S.Serializer.items l.serializer in
    let written = elements (values (take l.k is)) in
    (first_fault (drop l.k is) ≡ None)
    × (l.at ≡ l.start + length written)
    × (l.part ≡ put l.start written l.initial.part)
