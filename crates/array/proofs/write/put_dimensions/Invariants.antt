use Rattle.std.proofs.Common.{◌≡◌, ◌+◌, ◌*◌, take}
use Rattle.wire.specs.Bytes.{put}
use Rattle.array.specs.Layout.{dimensions}
use Rattle.array.proofs.write.put_dimensions.Given as goal

abbrev pub invariant-loop-dim : goal.invariant-loop-dim
invariant-loop-dim l = (l.at ≡ 12 + 8 * l.dim-index) × (l.part ≡ put 12 (dimensions (take l.dim-index l.dims)) l.initial.part)
