use Rattle.std.proofs.Common.{◌≡◌, ◌^◌, ◌<◌, drop}
use Rattle.texts.specs.Places.{pool_pair}
use Rattle.hstore.specs.Encoding.{entries_size, entry_texts}
use Rattle.hstore.proofs.Sizes.{size_from}
use Rattle.hstore.proofs.write.measure.Given as goal

-- what is left gives the answer
abbrev pub invariant-loop-k : goal.invariant-loop-k
invariant-loop-k l =
    (l.bytes < 2 ^ 64)
    × (size_from l.bytes (entry_texts (pool_pair l.pools) l.k (drop l.k l.entries)) ≡ entries_size (entry_texts (pool_pair l.pools) 0 l.entries))
