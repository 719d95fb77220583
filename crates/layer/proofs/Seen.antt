-- What the call for a range sees, and what it answers.
use Rattle.std.proofs.Common.{◌≡◌, ℕ, ◌^◌, ◌<◌, List, length, Ok, Err, Result, sym, refl, ap, ◌∙◌, arith}
use Rattle.fault.specs.declared.Fault.{Fault}
use Rattle.array.specs.Encoding.{counted}
use Rattle.range.specs.declared.bound.RangeBound.{RangeBound}
use Rattle.range.specs.declared.bound.RangeBound.TheVariants.{Inclusive, Exclusive}
use Rattle.range.specs.Encoding.{range_encoding}
use Rattle.range.specs.Mapping.{Mapped, inclusive, exclusive, unbounded}
use Rattle.wire.specs.Encoding.{Encoding, told}
use Rattle.wire.specs.Items.{Item}
use Rattle.rows.specs.declared.row.RangeRow.{RangeRow}
use Rattle.rows.specs.declared.row.RangeRow.TheVariants.{Bounds}
use Rattle.rows.specs.Rows.{range_row}
use Rattle.rows.specs.Windows.{window}

-- a window by the fields of another
same_window : {S : Type 0} (items : S → List Item) {s t : S} {f g n m : ℕ} → (s ≡ t) × (f ≡ g) × (n ≡ m) → window (items s) f n ≡ window (items t) g m
same_window items {s} {t} {f} {g} {n} {m} e = ap (λ x. window (items x) f n) e.0 ∙ ap (λ x. window (items t) x n) e.1 ∙ ap (window (items t) g) e.2

-- a number that a usize holds is counted whole
pub told_counted : (e : Encoding) (r : Result ℕ Fault) → ((n : ℕ) → r ≡ Ok n → n < 2 ^ 64) → r ≡ told e → r ≡ counted e
told_counted (Ok ws) r fits t = let small = fits (length ws) t in t ∙ ap Ok (omega arith)
told_counted (Err f) r fits t = t

-- a bound around the same number
pub same_bound : {R : ℕ → ℕ → Type 0} {b c : RangeBound ℕ} → Mapped R b c → ((k n : ℕ) → R k n → n ≡ k) → c ≡ b
same_bound (inclusive r) same = ap Inclusive (same _ _ r)
same_bound (exclusive r) same = ap Exclusive (same _ _ r)
same_bound unbounded same = refl

module _ {S : Type 0} (items : S → List Item) (s t : S) (first count : ℕ) where
  pub range_seen : (lower upper : RangeBound ℕ) {l u : RangeBound ℕ} {r : RangeRow} → (s ≡ t) × (first ≡ 0) × (count ≡ 65536) → l ≡ lower → u ≡ upper → r ≡ Bounds lower upper → range_encoding (window (items s) first count) l u ≡ range_row (items t) r
  range_seen lower upper {l} {u} e p q b =
      ap (λ is. range_encoding is l u) (same_window items e)
      ∙ ap (λ x. range_encoding (window (items t) 0 65536) x u) p
      ∙ ap (range_encoding (window (items t) 0 65536) lower) q
      ∙ sym (ap (range_row (items t)) b)
