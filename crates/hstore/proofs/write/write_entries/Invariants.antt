use Rattle.std.proofs.Common.{◌≡◌, ◌+◌, length, take}
use Rattle.std.specs.List.{flat_map}
use Rattle.texts.specs.Places.{pool_pair}
use Rattle.wire.specs.Bytes.{put}
use Rattle.hstore.specs.Encoding.{places_layout}
use Rattle.hstore.proofs.write.write_entries.Given as goal

abbrev pub invariant-loop-entry : goal.invariant-loop-entry
invariant-loop-entry l =
    let written = flat_map (places_layout (pool_pair l.pools)) (take l.entry-index l.entries) in
    (l.at ≡ 4 + length written) × (l.part ≡ put 4 written l.initial.part)
