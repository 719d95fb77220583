use Rattle.std.proofs.Common.{◌≡◌, drop}
use Rattle.hstore.specs.Encoding.{keys_there}
use Rattle.hstore.proofs.write.test_keys.Given as goal

-- what is left gives the answer
abbrev pub invariant-loop-k : goal.invariant-loop-k
invariant-loop-k l = keys_there l.k (drop l.k l.entries) ≡ keys_there 0 l.entries
