-- Reading a range (range_recv), whole.
use Rattle.std.specs.Prelude.{ℕ, ◌+◌, Bool, cond, not, List, length, Some, None, Ok, Err, Option, Result, ◌==◌, bit_and}
use Rattle.std.specs.Borrow.{Bor}
use Rattle.std.specs.Option.{option_map}
use Rattle.fault.specs.declared.Fault.{Fault}
use Rattle.wire.specs.Items.{nullable}
use Rattle.wire.specs.Words.{Value, then, ended, u8_at, value_at}
use Rattle.range.specs.declared.bound.Range.{Range}
use Rattle.range.specs.declared.bound.Range.TheVariants.{Empty, Nonempty}
use Rattle.range.specs.declared.bound.RangeBound.{RangeBound}
use Rattle.range.specs.declared.bound.RangeBound.TheVariants.{Inclusive, Exclusive, Unbounded}

-- a range: none is the empty one, else its lower and upper bound
abbrev pub Content : Type 0
Content = Option (RangeBound Value × RangeBound Value)

-- whether a tag has a bit
abbrev pub has : ℕ → ℕ → Bool
has bit tag = not (bit_and tag bit == 0)

abbrev pub kind : Bool → Value → RangeBound Value
kind inclusive v = cond inclusive (Inclusive v) (Exclusive v)

-- the bound at a place, and the place behind it: an unbounded side has no bytes, whatever its inclusive bit
abbrev pub bound_at : ℕ → ℕ → ℕ → List ℕ → ℕ → Result (RangeBound Value × ℕ) Fault
bound_at tag inclusive unbounded bs at =
    cond (has unbounded tag) (Ok (Unbounded, at)) (then (value_at bs at) (λ v. Ok (kind (has inclusive tag) v, at + length (nullable v))))

-- every odd tag is the empty range
abbrev pub tagged : List ℕ → ℕ → Result Content Fault
tagged bs tag =
    cond (has 1 tag) (ended bs 1 None)
    (then (bound_at tag 2 8 bs 1) (λ l. then (bound_at tag 4 16 bs l.1) (λ u. ended bs u.1 (Some (l.0, u.0)))))

abbrev pub range_recv : List ℕ → Result Content Fault
range_recv bs = then (u8_at bs 0) (tagged bs)

-- the bytes behind the references of a range of the code
abbrev pub seen_bound : RangeBound (Option (Bor (List ℕ))) → RangeBound Value
seen_bound (Inclusive o) = Inclusive (option_map (λ x. x.now) o)
seen_bound (Exclusive o) = Exclusive (option_map (λ x. x.now) o)
seen_bound Unbounded = Unbounded

-- the same of a bound and the place behind it
abbrev pub told_bound : Result (RangeBound (Option (Bor (List ℕ))) × ℕ) Fault → Result (RangeBound Value × ℕ) Fault
told_bound (Ok p) = Ok (seen_bound p.0, p.1)
told_bound (Err f) = Err f

abbrev pub seen_range : Range → Content
seen_range Empty = None
seen_range (Nonempty l u) = Some (seen_bound l, seen_bound u)

abbrev pub told_range : Result Range Fault → Result Content Fault
told_range (Ok r) = Ok (seen_range r)
told_range (Err f) = Err f
