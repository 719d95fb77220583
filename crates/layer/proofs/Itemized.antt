-- Row k of a table is item k of its layer.
use Rattle.std.proofs.Common.{◌≡◌, ℕ, zero, suc, ◌+◌, List, [], ◌∷◌, length, get_or, Ok, Err, sym, refl, ap, ◌∙◌, zero-add, arith}
use Rattle.fault.specs.declared.Fault.{Fault}
use Rattle.fault.specs.declared.Rule.TheVariants.{Missing}
use Rattle.fault.specs.Faults.{fault}
use Rattle.serializer.specs.Lists.{item_at}
use Rattle.wire.specs.Encoding.{Encoding}
use Rattle.wire.specs.Items.{Item}
use Rattle.rows.specs.Rows.{sealed, row_items}
use Rattle.rows.specs.Tables.{row_from, row_at}

module _ {R : Type 0} (encode : R → Encoding) where
  pub items_length : (first : ℕ) (rs : List R) → length (row_items encode first rs) ≡ length rs
  items_length first [] = refl
  items_length first (r ∷ rs) = ap suc (items_length (first + 1) rs)

  item_from : (first n k : ℕ) (rs : List R) (d : Item) (r : R) → Ok r ≡ row_from n k rs → get_or (row_items encode first rs) k d ≡ sealed (first + k) (encode r)
  item_from first n k [] d r e = let z : ◌≡◌ {A = ℕ} 0 1 = cc in absurd (omega arith)
  item_from first n zero (x ∷ rs) d r e = let same : x ≡ r = cc in ap (λ m. sealed m (encode x)) (omega arith) ∙ ap (λ y. sealed (first + 0) (encode y)) same
  item_from first n (suc k) (x ∷ rs) d r e = item_from (first + 1) n k rs d r e ∙ ap (λ m. sealed m (encode r)) (omega arith)

  none_from : (first n k : ℕ) (rs : List R) (f : Fault) → Err f ≡ row_from n k rs → get_or (row_items encode first rs) k (Err (fault Missing n)) ≡ Err f
  none_from first n k [] f e = let same : f ≡ fault Missing n = cc in ap Err (sym same)
  none_from first n zero (x ∷ rs) f e = let z : ◌≡◌ {A = ℕ} 0 1 = cc in absurd (omega arith)
  none_from first n (suc k) (x ∷ rs) f e = none_from (first + 1) n k rs f e

  pub item_of_row : (rs : List R) (k : ℕ) (r : R) → Ok r ≡ row_at rs k → item_at (row_items encode 0 rs) k ≡ sealed k (encode r)
  item_of_row rs k r e = item_from 0 k k rs (Err (fault Missing k)) r e ∙ ap (λ m. sealed m (encode r)) (zero-add k)

  pub item_of_none : (rs : List R) (k : ℕ) (f : Fault) → Err f ≡ row_at rs k → item_at (row_items encode 0 rs) k ≡ Err f
  item_of_none rs k f e = none_from 0 k k rs f e
