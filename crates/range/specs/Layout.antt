-- The layout of a range (range_send).
use Rattle.std.specs.Prelude.{ℕ, ◌+◌, List, [], ◌∷◌, ◌++◌}
use Rattle.wire.specs.Items.{nullable}
use Rattle.wire.specs.Words.{Value}
use Rattle.range.specs.declared.bound.RangeBound.{RangeBound}
use Rattle.range.specs.declared.bound.RangeBound.TheVariants.{Inclusive, Exclusive, Unbounded}

-- the tag bits of a side, where they are these: inclusive, unbounded
abbrev pub side_tag : {X : Type 0} → ℕ → ℕ → RangeBound X → ℕ
side_tag inclusive unbounded (Inclusive x) = inclusive
side_tag inclusive unbounded (Exclusive x) = 0
side_tag inclusive unbounded Unbounded = unbounded

-- 2 lower inclusive, 4 upper inclusive, 8 lower unbounded, 16 upper unbounded
abbrev pub tag : {X Y : Type 0} → RangeBound X → RangeBound Y → ℕ
tag lower upper = side_tag 2 8 lower + side_tag 4 16 upper

-- an unbounded side has no bytes
abbrev pub bound : RangeBound Value → List ℕ
bound (Inclusive v) = nullable v
bound (Exclusive v) = nullable v
bound Unbounded = []

-- tag, lower bound, upper bound
abbrev pub range_layout : RangeBound Value → RangeBound Value → List ℕ
range_layout lower upper = tag lower upper ∷ (bound lower ++ bound upper)

-- the empty range: bit 1 alone
abbrev pub empty_layout : List ℕ
empty_layout = 1 ∷ []
