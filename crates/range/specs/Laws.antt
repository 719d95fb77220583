-- What ties writing and reading a range together.
use Rattle.std.specs.Prelude.{◌≡◌, ℕ, ◌<◌, true, false, List, [], ◌∷◌, ◌++◌, Some, None, Ok}
use Rattle.wire.specs.Cursor.{Nullable}
use Rattle.wire.specs.Items.{Item, Within}
use Rattle.wire.specs.Words.{Value}
use Rattle.range.specs.declared.bound.RangeBound.{RangeBound}
use Rattle.range.specs.declared.bound.RangeBound.TheVariants.{Inclusive, Exclusive, Unbounded}
use Rattle.range.specs.Encoding.{bound_item}
use Rattle.range.specs.Layout.{range_layout}
use Rattle.range.specs.Recv.{Content, has, range_recv}

-- the tag bits of a side say its kind; beside the unbounded bit the inclusive one says nothing
abbrev pub Kind : ℕ → ℕ → ℕ → RangeBound Value → Type 0
Kind inclusive unbounded tag (Inclusive v) = (has unbounded tag ≡ false) × (has inclusive tag ≡ true)
Kind inclusive unbounded tag (Exclusive v) = (has unbounded tag ≡ false) × (has inclusive tag ≡ false)
Kind inclusive unbounded tag Unbounded = has unbounded tag ≡ true

-- the bytes of a bound, with any negative length for NULL
abbrev pub BoundForm : RangeBound Value → List ℕ → Type 0
BoundForm (Inclusive v) e = Nullable v e
BoundForm (Exclusive v) e = Nullable v e
BoundForm Unbounded e = e ≡ []

-- the bytes of a nonempty range with this tag
pub record Bounded (tag : ℕ) (lower upper : RangeBound Value) (bs : List ℕ) : Type 0 where
  pub even : has 1 tag ≡ false
  pub lower_kind : Kind 2 8 tag lower
  pub upper_kind : Kind 4 16 tag upper
  pub first : List ℕ
  pub second : List ℕ
  pub lower_form : BoundForm lower first
  pub upper_form : BoundForm upper second
  pub whole : bs ≡ tag ∷ (first ++ second)

-- the bytes of a range with this tag: unknown bits are ignored, and every odd tag is the empty range
abbrev pub Form : ℕ → Content → List ℕ → Type 0
Form tag None bs = (has 1 tag ≡ true) × (bs ≡ tag ∷ [])
Form tag (Some p) bs = Bounded tag p.0 p.1 bs

-- the bytes of a range are read as it
abbrev pub ReadsBack : List ℕ → Type 0
ReadsBack bs = (tag : ℕ) (c : Content) → tag < 256 → Form tag c bs → range_recv bs ≡ Ok c

-- only the bytes of a range are read
abbrev pub OnlyForms : List ℕ → Type 0
OnlyForms bs = (c : Content) → range_recv bs ≡ Ok c → (tag : ℕ) × (tag < 256) × Form tag c bs

-- what was written for these bounds is read as their kinds with their items
abbrev pub WrittenBack : List Item → RangeBound ℕ → RangeBound ℕ → Type 0
WrittenBack is lower upper = (l u : RangeBound Value) → bound_item is lower ≡ Ok l → bound_item is upper ≡ Ok u → range_recv (range_layout l u) ≡ Ok (Some (l, u))

-- a length word counts the payload of a bound
abbrev pub ShortBound : RangeBound Value → Type 0
ShortBound (Inclusive v) = Within 2147483647 (Ok v)
ShortBound (Exclusive v) = Within 2147483647 (Ok v)
ShortBound Unbounded = Unit {0}

-- no other bounds have the bytes that were written for these
abbrev pub Distinct : List Item → RangeBound ℕ → RangeBound ℕ → Type 0
Distinct is lower upper = (l u : RangeBound Value) → bound_item is lower ≡ Ok l → bound_item is upper ≡ Ok u → (m v : RangeBound Value) → ShortBound m → ShortBound v → range_layout m v ≡ range_layout l u → (m ≡ l) × (v ≡ u)
