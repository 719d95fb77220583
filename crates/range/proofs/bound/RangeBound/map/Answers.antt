use Rattle.std.proofs.Common.{◌≡◌, sym, subst}
use Rattle.range.specs.declared.bound.RangeBound.{RangeBound}
use Rattle.range.specs.declared.bound.RangeBound.TheVariants.{Inclusive, Exclusive, Unbounded}
use Rattle.range.specs.Mapping.{Mapped, inclusive, exclusive, unbounded}
use Rattle.range.proofs.bound.RangeBound.map.Goals as goal

module _ {X Y : Type 0} {R : X → Y → Type 0} {b : RangeBound X} where
  to_inclusive : {x : X} {y : Y} → b ≡ Inclusive x → R x y → Mapped R b (Inclusive y)
  to_inclusive {y = y} is r = subst (λ s. Mapped R s (Inclusive y)) (sym is) (inclusive r)

  to_exclusive : {x : X} {y : Y} → b ≡ Exclusive x → R x y → Mapped R b (Exclusive y)
  to_exclusive {y = y} is r = subst (λ s. Mapped R s (Exclusive y)) (sym is) (exclusive r)

  to_unbounded : b ≡ Unbounded → Mapped R b Unbounded
  to_unbounded is = subst (λ s. Mapped R s Unbounded) (sym is) unbounded

pub returns-in-Inclusive : goal.returns-in-Inclusive
returns-in-Inclusive g c = to_inclusive c.in-Inclusive.is c.f.ensures

pub returns-in-Exclusive : goal.returns-in-Exclusive
returns-in-Exclusive g c = to_exclusive c.in-Exclusive.is c.f-in-Exclusive.ensures

pub returns-in-Unbounded : goal.returns-in-Unbounded
returns-in-Unbounded g c = to_unbounded c.in-Unbounded.is
