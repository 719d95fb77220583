-- The weights, item by item.
use Rattle.std.proofs.Common.{◌≡◌, ℕ, zero, suc, ◌+◌, ◌<◌, ◌≤◌, List, [], ◌∷◌, length, get_or, Err, refl, ap, ◌∙◌, zero-add, arith}
use Rattle.std.proofs.lemmas.List.{get_or_past}
use Rattle.fault.specs.declared.Rule.TheVariants.{Missing}
use Rattle.fault.specs.Faults.{fault}
use Rattle.wire.specs.Items.{Item}
use Rattle.serializer.specs.Lists.{item_at}
use Rattle.recipe.specs.Weights.{int4, weighed, weights}

pub length_weights : (first : ℕ) (readings : List ℕ) → length (weights first readings) ≡ length readings
length_weights first [] = refl
length_weights first (reading ∷ rest) = ap suc (length_weights (first + 1) rest)

weight_at : (first : ℕ) (readings : List ℕ) (k : ℕ) (i : Item) → k < length readings → get_or (weights first readings) k i ≡ int4 (weighed (first + k) (get_or readings k 0))
weight_at first [] k i h = absurd (omega arith)
weight_at first (reading ∷ rest) zero i h = ap (λ n. int4 (weighed n reading)) (omega arith)
weight_at first (reading ∷ rest) (suc k) i h =
    weight_at (first + 1) rest k i (omega arith) ∙ ap (λ n. int4 (weighed n (get_or rest k 0))) (omega arith)

module _ (readings : List ℕ) (k : ℕ) where
  pub item_within : k < length readings → item_at (weights 0 readings) k ≡ int4 (weighed k (get_or readings k 0))
  item_within h =
      weight_at 0 readings k (Err (fault Missing k)) h ∙ ap (λ n. int4 (weighed n (get_or readings k 0))) (zero-add k)

  pub item_past : length readings ≤ k → item_at (weights 0 readings) k ≡ Err (fault Missing k)
  item_past h = get_or_past (weights 0 readings) k (Err (fault Missing k)) (simp length_weights h)
