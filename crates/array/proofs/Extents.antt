-- The extent of the items that were asked for.
use Rattle.std.proofs.Common.{◌≡◌, ℕ, ◌+◌, ◌-◌, ◌^◌, ◌<◌, ◌≤◌, min, Bool, true, false, not, ◌||◌, List, length, take, drop, is_some, Some, None, Ok, Err, Option, Result, unwrap_or, sym, refl, ap, ◌∙◌, arith}
use Rattle.std.proofs.lemmas.List.{length-append, take_all, at_drop_all}
use Rattle.fault.specs.declared.Fault.{Fault}
use Rattle.wire.specs.Items.{Item, size_of, nullable}
use Rattle.serializer.specs.Lists.{item_at, values, first_fault, refused_or}
use Rattle.array.specs.declared.write.Extent.{Extent}
use Rattle.array.specs.Encoding.{extent, extent_of}
use Rattle.array.specs.Layout.{elements, is_null, has_null}
use Rattle.array.proofs.Steps.{item_sized, item_fault, length_nullable, sized_null, values_more, elements_more, has_null_push, fault_on, fault_here}

not_same : (a b : Bool) → not a ≡ not b → a ≡ b
not_same true true e = refl
not_same true false e = cc
not_same false true e = cc
not_same false false e = refl

module _ (is : List Item) (k : ℕ) (within : k < length is) (o : Option ℕ) (size : Ok o ≡ size_of (item_at is k)) where
  pub bytes_more : length (elements (values (take (k + 1) is))) ≡ length (elements (values (take k is))) + (4 + unwrap_or o 0)
  bytes_more =
      let p = item_sized (item_at is k) o size in
      ap length (elements_more is k within p.0 p.1) ∙ length-append (elements (values (take k is))) (nullable p.0)
      ∙ ap (λ n. length (elements (values (take k is))) + n) (length_nullable p.0 ∙ ap (λ q. 4 + unwrap_or q 0) (sym p.2))

  pub nulls_more : (b : Bool) → is_some o ≡ not b → has_null (values (take (k + 1) is)) ≡ (has_null (values (take k is)) || b)
  nulls_more b none =
      let p = item_sized (item_at is k) o size in
      let same : not (is_null p.0) ≡ not b = sym (sized_null p.0) ∙ sym (ap is_some p.2) ∙ none in
      ap has_null (values_more is k within p.0 p.1) ∙ has_null_push (values (take k is)) p.0 ∙ ap (λ x. has_null (values (take k is)) || x) (not_same (is_null p.0) b same)

  pub sound_more : first_fault (drop (k + 1) is) ≡ first_fault (drop k is)
  sound_more = let p = item_sized (item_at is k) o size in sym (fault_on is k within p.0 p.1)

pub extent_all : (is : List Item) (k bytes : ℕ) (nulls : Bool) → length is ≤ k → first_fault (drop k is) ≡ first_fault is → bytes ≡ min (length (elements (values (take k is)))) (2 ^ 64 - 1) → nulls ≡ has_null (values (take k is)) → Ok (record { bytes = bytes; nulls = nulls }) ≡ extent is
extent_all is k bytes nulls past left b n =
    let none : first_fault is ≡ None = sym left ∙ at_drop_all first_fault is k past in
    let all = take_all k is past in
    rw (none, b, n, all)

pub extent_fault : (is : List Item) (k : ℕ) (f : Fault) → k < length is → Err f ≡ size_of (item_at is k) → first_fault (drop k is) ≡ first_fault is → extent is ≡ Err f
extent_fault is k f within size left =
    let here = sym left ∙ fault_here is k within f (item_fault (item_at is k) f (sym size)) in
    rw here

not_refused : {X : Type 0} (o : Option Fault) (x y : X) → Ok x ≡ refused_or o (Ok y) → (o ≡ None) × (x ≡ y)
not_refused None x y e = (refl, cc)
not_refused (Some f) x y e = let z : ◌≡◌ {A = ℕ} 0 1 = cc in absurd (omega arith)

-- an extent was told, so no item is a fault
pub extent_told : (is : List Item) (x : Extent) → Ok x ≡ extent is → (first_fault is ≡ None) × (x ≡ extent_of is)
extent_told is x e = not_refused (first_fault is) x (extent_of is) e

-- a fault was told, and comes first
refused : {X Y : Type 0} (o : Option Fault) (f : Fault) (y : X) (r : Result Y Fault) → Err f ≡ refused_or o (Ok y) → refused_or o r ≡ Err f
refused None f y r e = let z : ◌≡◌ {A = ℕ} 0 1 = cc in absurd (omega arith)
refused (Some g) f y r e = cc

pub extent_refused : {Y : Type 0} (is : List Item) (f : Fault) (r : Result Y Fault) → Err f ≡ extent is → refused_or (first_fault is) r ≡ Err f
extent_refused is f r e = refused (first_fault is) f (extent_of is) r e
