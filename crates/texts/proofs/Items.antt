-- The texts at places, item by item.
use Rattle.std.proofs.Common.{◌≡◌, ℕ, zero, suc, ◌+◌, ◌<◌, ◌≤◌, List, [], ◌∷◌, length, get_or, Err, refl, ap, ◌∙◌, zero-add, arith}
use Rattle.std.proofs.lemmas.List.{get_or_past}
use Rattle.fault.specs.declared.Rule.TheVariants.{Missing}
use Rattle.fault.specs.Faults.{fault}
use Rattle.wire.specs.Items.{Item}
use Rattle.serializer.specs.Lists.{item_at}
use Rattle.texts.specs.Places.{Place, Bytes, place_item, place_items}

pub length_items : (ps : Bytes) (first : ℕ) (places : List Place) → length (place_items ps first places) ≡ length places
length_items ps first [] = refl
length_items ps first (p ∷ places) = ap suc (length_items ps (first + 1) places)

at_place : (ps : Bytes) (first : ℕ) (places : List Place) (k : ℕ) (p : Place) (i : Item) → k < length places → get_or (place_items ps first places) k i ≡ place_item ps (first + k) (get_or places k p)
at_place ps first [] k p i h = absurd (omega arith)
at_place ps first (q ∷ places) zero p i h = ap (λ n. place_item ps n q) (omega arith)
at_place ps first (q ∷ places) (suc k) p i h =
    at_place ps (first + 1) places k p i (omega arith) ∙ ap (λ n. place_item ps n (get_or places k p)) (omega arith)

module _ (ps : Bytes) (places : List Place) (k : ℕ) where
  pub item_within : (p : Place) → k < length places → item_at (place_items ps 0 places) k ≡ place_item ps k (get_or places k p)
  item_within p h =
      at_place ps 0 places k p (Err (fault Missing k)) h ∙ ap (λ n. place_item ps n (get_or places k p)) (zero-add k)

  pub item_past : length places ≤ k → item_at (place_items ps 0 places) k ≡ Err (fault Missing k)
  item_past h =
      get_or_past (place_items ps 0 places) k (Err (fault Missing k)) (simp length_items h)
