-- A bound around another value.
use Rattle.range.specs.declared.bound.RangeBound.{RangeBound}
use Rattle.range.specs.declared.bound.RangeBound.TheVariants.{Inclusive, Exclusive, Unbounded}

-- a fact of a bound's value, where it has one
abbrev pub ForBound : {X : Type 0} → RangeBound X → (X → Type 0) → Type 0
ForBound (Inclusive x) P = P x
ForBound (Exclusive x) P = P x
ForBound Unbounded P = Unit {0}

-- a bound of the same kind, its value related to that of the first
pub data Mapped {X Y : Type 0} (related : X → Y → Type 0) : RangeBound X → RangeBound Y → Type 0 where
  inclusive : {x : X} {y : Y} → related x y → Mapped related (Inclusive x) (Inclusive y)
  exclusive : {x : X} {y : Y} → related x y → Mapped related (Exclusive x) (Exclusive y)
  unbounded : Mapped related Unbounded Unbounded
