-- A range that was written, and what is read from it.
use Rattle.std.proofs.Common.{◌≡◌, ℕ, ◌<◌, false, List, Some, Ok, refl, ap, subst, lit<}
use Rattle.wire.specs.Items.{Item}
use Rattle.wire.specs.Words.{Value, then}
use Rattle.wire.proofs.Nullables.{nullable_written}
use Rattle.serializer.specs.Lists.{Short, item_at}
use Rattle.range.specs.declared.bound.RangeBound.{RangeBound}
use Rattle.range.specs.declared.bound.RangeBound.TheVariants.{Inclusive, Exclusive, Unbounded}
use Rattle.range.specs.Encoding.{bound_item}
use Rattle.range.specs.Laws.{Kind, BoundForm, Bounded, ShortBound, WrittenBack, Distinct}
use Rattle.range.specs.Layout.{tag, bound, range_layout}
use Rattle.range.specs.Recv.{has, range_recv}
use Rattle.wire.proofs.Taking.{then_ok}
use Rattle.range.proofs.Laws.{reads_back}

-- the tag of a nonempty range is an even byte that says both kinds
pub record Tagged (tag : ℕ) (l u : RangeBound Value) : Type 0 where
  pub byte : tag < 256
  pub even : has 1 tag ≡ false
  pub lower : Kind 2 8 tag l
  pub upper : Kind 4 16 tag u

pub tagged_as : (l u : RangeBound Value) → Tagged (tag l u) l u
tagged_as (Inclusive x) (Inclusive y) = record { byte = lit< tt; even = refl; lower = (refl, refl); upper = (refl, refl) }
tagged_as (Inclusive x) (Exclusive y) = record { byte = lit< tt; even = refl; lower = (refl, refl); upper = (refl, refl) }
tagged_as (Inclusive x) Unbounded = record { byte = lit< tt; even = refl; lower = (refl, refl); upper = refl }
tagged_as (Exclusive x) (Inclusive y) = record { byte = lit< tt; even = refl; lower = (refl, refl); upper = (refl, refl) }
tagged_as (Exclusive x) (Exclusive y) = record { byte = lit< tt; even = refl; lower = (refl, refl); upper = (refl, refl) }
tagged_as (Exclusive x) Unbounded = record { byte = lit< tt; even = refl; lower = (refl, refl); upper = refl }
tagged_as Unbounded (Inclusive y) = record { byte = lit< tt; even = refl; lower = refl; upper = (refl, refl) }
tagged_as Unbounded (Exclusive y) = record { byte = lit< tt; even = refl; lower = refl; upper = (refl, refl) }
tagged_as Unbounded Unbounded = record { byte = lit< tt; even = refl; lower = refl; upper = refl }

-- as it is written, a bound has one of its forms
bound_written : (b : RangeBound Value) → ShortBound b → BoundForm b (bound b)
bound_written (Inclusive v) short = nullable_written v short
bound_written (Exclusive v) short = nullable_written v short
bound_written Unbounded short = refl

layout_read : (l u : RangeBound Value) → ShortBound l → ShortBound u → range_recv (range_layout l u) ≡ Ok (Some (l, u))
layout_read l u p q =
    let t = tagged_as l u in
    let form : Bounded (tag l u) l u (range_layout l u) = record { even = t.even; lower_kind = t.lower; upper_kind = t.upper; first = bound l; second = bound u; lower_form = bound_written l p; upper_form = bound_written u q; whole = refl } in
    reads_back (range_layout l u) (tag l u) (Some (l, u)) t.byte form

module _ (is : List Item) (short : (k : ℕ) → Short (item_at is k)) where
  item_short : (k : ℕ) (on : Value → RangeBound Value) (b : RangeBound Value) → ((v : Value) → Short (Ok v) → ShortBound (on v)) → then (item_at is k) (λ v. Ok (on v)) ≡ Ok b → ShortBound b
  item_short k on b keeps e =
      let t = then_ok (item_at is k) (λ v. Ok (on v)) b e in
      let rest = t.2 in
      let same : on t.0 ≡ b = cc in
      subst ShortBound same (keeps t.0 (subst Short t.1 (short k)))

  bound_short : (side : RangeBound ℕ) (b : RangeBound Value) → bound_item is side ≡ Ok b → ShortBound b
  bound_short (Inclusive k) b e = item_short k Inclusive b (λ v h. h) e
  bound_short (Exclusive k) b e = item_short k Exclusive b (λ v h. h) e
  bound_short Unbounded b e = let same : Unbounded ≡ b = cc in subst ShortBound same tt

  pub written_back : (lower upper : RangeBound ℕ) → WrittenBack is lower upper
  written_back lower upper l u p q = layout_read l u (bound_short lower l p) (bound_short upper u q)

  pub distinct : (lower upper : RangeBound ℕ) → Distinct is lower upper
  distinct lower upper l u p q m v m-short v-short e =
      let one = layout_read m v m-short v-short in
      let two = written_back lower upper l u p q in
      let bytes = ap range_recv e in
      let pair : ◌≡◌ {A = RangeBound Value × RangeBound Value} (m, v) (l, u) = cc in
      (ap (λ r. r.0) pair, ap (λ r. r.1) pair)
