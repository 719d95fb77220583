-- What the rows of a range layer write, and how it is read.
use Rattle.std.proofs.Common.{◌≡◌, ℕ, ◌+◌, List, Some, Ok, sym, ap, ◌∙◌, subst, inl, inr, arith}
use Rattle.std.proofs.lemmas.Bool.{cases_lt}
use Rattle.wire.specs.Items.{Item}
use Rattle.wire.specs.Words.{Value, then}
use Rattle.wire.proofs.Taking.{then_ok}
use Rattle.serializer.specs.Lists.{Short, item_at}
use Rattle.range.specs.declared.bound.RangeBound.{RangeBound}
use Rattle.range.specs.declared.bound.RangeBound.TheVariants.{Inclusive, Exclusive, Unbounded}
use Rattle.range.specs.Mapping.{Mapped, inclusive, exclusive, unbounded}
use Rattle.range.specs.Encoding.{bound_item, range_encoding}
use Rattle.range.specs.Layout.{range_layout}
use Rattle.range.specs.Recv.{range_recv}
use Rattle.range.proofs.Layouts.{written_back}
use Rattle.rows.specs.Windows.{window, window_short}
use Rattle.rows.proofs.Windowing.{window_item, window_past, above_ok}

-- an item that has a value through the window has it below
item_below : (is : List Item) (n k : ℕ) (v : Value) → item_at (window is 0 n) k ≡ Ok v → item_at is k ≡ Ok v
item_below is n k v e =
    elim (cases_lt k n) [
      | inl h ↦ ap (item_at is) (omega arith) ∙ above_ok (item_at is (0 + k)) v (sym (window_item is 0 n k h) ∙ e)
      | inr h ↦ let y = sym (window_past is 0 n k h) ∙ e in let z : ◌≡◌ {A = ℕ} 0 1 = cc in absurd (omega arith)
    ]

-- a bound with its item, by the item below
pub side_below : (is : List Item) (n : ℕ) (b : RangeBound ℕ) (c : RangeBound Value) → bound_item (window is 0 n) b ≡ Ok c → Mapped (λ k v. item_at is k ≡ Ok v) b c
side_below is n (Inclusive k) c e =
    let t = then_ok (item_at (window is 0 n) k) (λ v. Ok (Inclusive v)) c e in
    let same : Inclusive t.0 ≡ c = let q = t.2 in cc in
    subst (Mapped (λ j v. item_at is j ≡ Ok v) (Inclusive k)) same (inclusive (item_below is n k t.0 t.1))
side_below is n (Exclusive k) c e =
    let t = then_ok (item_at (window is 0 n) k) (λ v. Ok (Exclusive v)) c e in
    let same : Exclusive t.0 ≡ c = let q = t.2 in cc in
    subst (Mapped (λ j v. item_at is j ≡ Ok v) (Exclusive k)) same (exclusive (item_below is n k t.0 t.1))
side_below is n Unbounded c e =
    let same : Unbounded ≡ c = cc in
    subst (Mapped (λ j v. item_at is j ≡ Ok v) Unbounded) same unbounded

-- a range row that was written: it is read as its bounds with their items
pub record RangeRead (is : List Item) (lower upper : RangeBound ℕ) (ws : List ℕ) : Type 0 where
  pub l : RangeBound Value
  pub u : RangeBound Value
  pub reads : range_recv ws ≡ Ok (Some (l, u))
  pub low : Mapped (λ k v. item_at is k ≡ Ok v) lower l
  pub high : Mapped (λ k v. item_at is k ≡ Ok v) upper u

pub range_read : (is : List Item) (lower upper : RangeBound ℕ) (ws : List ℕ) → ((k : ℕ) → Short (item_at is k)) → range_encoding (window is 0 65536) lower upper ≡ Ok ws → RangeRead is lower upper ws
range_read is lower upper ws short e =
    let w = window is 0 65536 in
    let a = then_ok (bound_item w lower) (λ l. then (bound_item w upper) (λ u. Ok (range_layout l u))) ws e in
    let b = then_ok (bound_item w upper) (λ u. Ok (range_layout a.0 u)) ws a.2 in
    let same : range_layout a.0 b.0 ≡ ws = let q = b.2 in cc in
    let back = written_back w (window_short is short 0 65536) lower upper a.0 b.0 a.1 b.1 in
    record { l = a.0; u = b.0; reads = sym (ap range_recv same) ∙ back; low = side_below is 65536 lower a.0 a.1; high = side_below is 65536 upper b.0 b.1 }
