-- Rows of a table.
use Rattle.std.proofs.Common.{◌≡◌, ℕ, zero, suc, ◌<◌, ◌≤◌, ltb, List, [], ◌∷◌, length, get_or, Some, None, Ok, Err, Option, sym, refl, ap, ◌∙◌, arith}
use Rattle.std.proofs.lemmas.Bool.{ltb-true, ltb-false}
use Rattle.std.specs.Borrow.{Bor}
use Rattle.std.specs.Option.{is_some, IfSome, option_copied, ok_or}
use Rattle.fault.specs.declared.Fault.{Fault}
use Rattle.fault.specs.declared.Rule.TheVariants.{Missing}
use Rattle.fault.specs.Faults.{fault}
use Rattle.rows.specs.Tables.{row_from}

module _ {R : Type 0} where
  row_in : (rs : List R) (k n : ℕ) (d : R) → k < length rs → row_from n k rs ≡ Ok (get_or rs k d)
  row_in [] k n d h = absurd (omega arith)
  row_in (r ∷ rs) zero n d h = refl
  row_in (r ∷ rs) (suc k) n d h = row_in rs k n d (omega arith)

  row_past : (rs : List R) (k n : ℕ) → length rs ≤ k → row_from n k rs ≡ Err (fault Missing n)
  row_past [] k n h = refl
  row_past (r ∷ rs) zero n h = absurd (omega arith)
  row_past (r ∷ rs) (suc k) n h = row_past rs k n (omega arith)

  -- a row that was looked up, or a fault
  pub row_got : (rs : List R) (k n : ℕ) (o : Option (Bor R)) (f : Fault) → is_some o ≡ ltb k (length rs) → IfSome o (λ x. x.now ≡ get_or rs k x.now) → f ≡ fault Missing n → ok_or (option_copied o) f ≡ row_from n k rs
  row_got rs k n None f there is e = ap Err e ∙ sym (row_past rs k n (ltb-false k (length rs) (sym there)))
  row_got rs k n (Some x) f there is e = ap Ok is ∙ sym (row_in rs k n x.now (ltb-true k (length rs) (sym there)))
