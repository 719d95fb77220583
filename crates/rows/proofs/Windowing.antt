-- Items seen through a window.
use Rattle.std.proofs.Common.{◌≡◌, ℕ, zero, suc, ◌+◌, ◌<◌, ◌≤◌, Bool, true, false, cond, ltb, List, length, get_or, Ok, Err, Result, sym, refl, ap, ◌∙◌, arith}
use Rattle.std.proofs.lemmas.Bool.{ltb-true, ltb-false}
use Rattle.fault.specs.declared.Fault.{Fault}
use Rattle.fault.specs.declared.Rule.TheVariants.{Missing}
use Rattle.fault.specs.Faults.{fault}
use Rattle.serializer.specs.Lists.{item_at}
use Rattle.wire.specs.Items.{Item}
use Rattle.rows.specs.Windows.{above, window, number_at}

pub window_length : (is : List Item) (first n : ℕ) → length (window is first n) ≡ n
window_length is first zero = refl
window_length is first (suc n) = ap suc (window_length is (first + 1) n)

in_window : (is : List Item) (first n k : ℕ) (f : Fault) → k < n → get_or (window is first n) k (Err f) ≡ above (item_at is (first + k))
in_window is first zero k f h = absurd (omega arith)
in_window is first (suc n) zero f h = ap (λ m. above (item_at is m)) (omega arith)
in_window is first (suc n) (suc k) f h = in_window is (first + 1) n k f (omega arith) ∙ ap (λ m. above (item_at is m)) (omega arith)

-- item k of a window is the item below, seen from above
pub window_item : (is : List Item) (first n k : ℕ) → k < n → item_at (window is first n) k ≡ above (item_at is (first + k))
window_item is first n k h = in_window is first n k _ h

past_window : (is : List Item) (first n k : ℕ) (f : Fault) → n ≤ k → get_or (window is first n) k (Err f) ≡ Err f
past_window is first zero k f h = refl
past_window is first (suc n) zero f h = absurd (omega arith)
past_window is first (suc n) (suc k) f h = past_window is (first + 1) n k f (omega arith)

-- past the window there is none
pub window_past : (is : List Item) (first n k : ℕ) → n ≤ k → item_at (window is first n) k ≡ Err (fault Missing k)
window_past is first n k h = past_window is first n k _ h

number_in : (first n k m : ℕ) (b : Bool) → ltb k n ≡ b → Ok m ≡ cond b (Ok (first + k)) (Err (fault Missing k)) → (k < n) × (m ≡ first + k)
number_in first n k m true t e = (ltb-true k n t, cc)
number_in first n k m false t e = let z : ◌≡◌ {A = ℕ} 0 1 = cc in absurd (omega arith)

number_out : (first n k : ℕ) (f : Fault) (b : Bool) → ltb k n ≡ b → Err f ≡ cond b (Ok (first + k)) (Err (fault Missing k)) → (n ≤ k) × (f ≡ fault Missing k)
number_out first n k f true t e = let z : ◌≡◌ {A = ℕ} 0 1 = cc in absurd (omega arith)
number_out first n k f false t e = (ltb-false k n t, cc)

-- the item that a number names
pub numbered : (is : List Item) (first n k m : ℕ) → Ok m ≡ number_at first n k → item_at (window is first n) k ≡ above (item_at is m)
numbered is first n k m e =
    let p = number_in first n k m (ltb k n) refl e in
    window_item is first n k p.0 ∙ ap (λ j. above (item_at is j)) (sym p.1)

pub unnumbered : (is : List Item) (first n k : ℕ) (f : Fault) → Err f ≡ number_at first n k → item_at (window is first n) k ≡ Err f
unnumbered is first n k f e =
    let p = number_out first n k f (ltb k n) refl e in
    window_past is first n k p.0 ∙ ap Err (sym p.1)

-- a result that is Ok from above is so below
pub above_ok : {X : Type 0} (r : Result X Fault) (x : X) → above r ≡ Ok x → r ≡ Ok x
above_ok (Ok y) x e = e
above_ok (Err f) x e = let z : ◌≡◌ {A = ℕ} 0 1 = cc in absurd (omega arith)
