-- One item or one dimension more.
use Rattle.std.proofs.Common.{◌≡◌, ℕ, ◌+◌, ◌*◌, ◌<◌, ◌≤◌, not, ◌||◌, List, [], ◌∷◌, ◌++◌, length, get_or, take, drop, is_some, Some, None, Ok, Err, Option, unwrap_or, sym, refl, ap, ◌∙◌, arith}
use Rattle.std.proofs.lemmas.List.{append_assoc, length-append, length-take-le, take-append-drop, take_more, at_drop_more, flat_map_more}
use Rattle.std.specs.List.{flat_map}
use Rattle.std.specs.Option.{option_map}
use Rattle.fault.specs.declared.Fault.{Fault}
use Rattle.fault.specs.declared.Rule.TheVariants.{Missing}
use Rattle.fault.specs.Faults.{fault}
use Rattle.wire.specs.Items.{Item, size_of, nullable}
use Rattle.wire.specs.Words.{Value}
use Rattle.serializer.specs.Lists.{item_at, kept, values, first_fault}
use Rattle.array.specs.declared.dimension.ArrayDimension.{ArrayDimension}
use Rattle.array.specs.Layout.{dimension, dimensions, elements, is_null, has_null}
use Rattle.array.proofs.Dimensions.{length_dimensions}

-- what a size tells of the item
pub item_sized : (i : Item) (o : Option ℕ) → Ok o ≡ size_of i → (v : Value) × (i ≡ Ok v) × (o ≡ option_map length v)
item_sized (Ok v) o e = (v, refl, cc)
item_sized (Err f) o e = (None, cc, cc)

pub item_fault : (i : Item) (f : Fault) → size_of i ≡ Err f → i ≡ Err f
item_fault (Ok v) f e = cc
item_fault (Err g) f e = cc

module _ (is : List Item) (k : ℕ) (within : k < length is) where
  pub values_more : (v : Value) → item_at is k ≡ Ok v → values (take (k + 1) is) ≡ values (take k is) ++ v ∷ []
  values_more v e =
      ap values (take_more is k (Err (fault Missing k)) within) ∙ sym (flat_map_more kept [] (take k is) (item_at is k)) ∙ ap (λ i. values (take k is) ++ kept i) e

  pub elements_more : (v : Value) → item_at is k ≡ Ok v → elements (values (take (k + 1) is)) ≡ elements (values (take k is)) ++ nullable v
  elements_more v e = ap elements (values_more v e) ∙ sym (flat_map_more nullable [] (values (take k is)) v)

  pub fault_on : (v : Value) → item_at is k ≡ Ok v → first_fault (drop k is) ≡ first_fault (drop (k + 1) is)
  fault_on v e = at_drop_more first_fault is k (Err (fault Missing k)) within ∙ ap (λ i. first_fault (i ∷ drop (k + 1) is)) e

  pub fault_here : (f : Fault) → item_at is k ≡ Err f → first_fault (drop k is) ≡ Some f
  fault_here f e = at_drop_more first_fault is k (Err (fault Missing k)) within ∙ ap (λ i. first_fault (i ∷ drop (k + 1) is)) e

pub has_null_push : (vs : List Value) (v : Value) → has_null (vs ++ v ∷ []) ≡ (has_null vs || is_null v)
has_null_push [] None = refl
has_null_push [] (Some bs) = refl
has_null_push (None ∷ vs) v = refl
has_null_push (Some bs ∷ vs) v = has_null_push vs v

pub length_nullable : (v : Value) → length (nullable v) ≡ 4 + unwrap_or (option_map length v) 0
length_nullable None = refl
length_nullable (Some bs) = omega arith

pub sized_null : (v : Value) → is_some (option_map length v) ≡ not (is_null v)
sized_null None = refl
sized_null (Some bs) = refl

-- where no fault is left, there is a value
pub sound_item : (i : Item) (is : List Item) → first_fault (i ∷ is) ≡ None → (v : Value) × (i ≡ Ok v)
sound_item (Ok v) is e = (v, refl)
sound_item (Err f) is e = (None, cc)

joined_append : {X A : Type 0} (f : X → List A) (xs ys : List X) → flat_map f (xs ++ ys) ≡ flat_map f xs ++ flat_map f ys
joined_append f [] ys = refl
joined_append f (x ∷ xs) ys = ap (λ r. f x ++ r) (joined_append f xs ys) ∙ sym (append_assoc (f x) (flat_map f xs) (flat_map f ys))

-- the elements of the first k items are among all
pub elements_front : (is : List Item) (k : ℕ) → length (elements (values (take k is))) ≤ length (elements (values is))
elements_front is k =
    let whole : elements (values is) ≡ elements (values (take k is)) ++ elements (values (drop k is))
    = ap (λ js. elements (values js)) (sym (take-append-drop k is)) ∙ ap elements (joined_append kept (take k is) (drop k is)) ∙ joined_append nullable (values (take k is)) (values (drop k is)) in
    omega (arith, ap length whole, length-append (elements (values (take k is))) (elements (values (drop k is))))

pub dimensions_more : (ds : List ArrayDimension) (i : ℕ) (d : ArrayDimension) → i < length ds → dimensions (take (i + 1) ds) ≡ dimensions (take i ds) ++ dimension (get_or ds i d)
dimensions_more ds i d h = ap dimensions (take_more ds i d h) ∙ sym (flat_map_more dimension [] (take i ds) (get_or ds i d))

pub length_front : (ds : List ArrayDimension) (i : ℕ) → i ≤ length ds → length (dimensions (take i ds)) ≡ 8 * i
length_front ds i h = length_dimensions (take i ds) ∙ ap (λ n. 8 * n) (length-take-le i ds h)
