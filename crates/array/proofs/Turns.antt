-- A turn of the loop that writes the elements one behind another.
use Rattle.std.proofs.Common.{◌≡◌, ℕ, ◌+◌, ◌-◌, ◌<◌, ◌≤◌, List, ◌++◌, length, take, drop, None, Ok, Err, sym, ap, ◌∙◌, arith}
use borrow.Rule.Slice.PartMut.{put_mid}
use Rattle.std.proofs.lemmas.List.{take_rest, length-drop, length-append, at_drop_more}
use Rattle.fault.specs.declared.Fault.{Fault}
use Rattle.fault.specs.declared.Rule.TheVariants.{Missing}
use Rattle.fault.specs.Faults.{fault}
use Rattle.wire.specs.Bytes.{put, over}
use Rattle.wire.specs.Encoding.{told, laid, room_for}
use Rattle.wire.specs.Items.{Item, nullable, nullable_item}
use Rattle.wire.specs.Words.{Value}
use Rattle.wire.proofs.Writing.{put_on, put_lent, roomy}
use Rattle.serializer.specs.Lists.{item_at, values, first_fault}
use Rattle.serializer.proofs.Written.{rest}
use Rattle.array.specs.Layout.{elements}
use Rattle.array.proofs.Steps.{sound_item, elements_more, elements_front, fault_on}

module _ (is : List Item) (k : ℕ) (within : k < length is) (sound : first_fault (drop k is) ≡ None) (start at : ℕ) (entry part : List ℕ) (room : start + length (elements (values is)) ≤ length entry) (place : at ≡ start + length (elements (values (take k is)))) (long : length part ≡ length entry) where
  here : (v : Value) × (item_at is k ≡ Ok v)
  here = sound_item (item_at is k) (drop (k + 1) is) (sym (at_drop_more first_fault is k (Err (fault Missing k)) within) ∙ sound)

  more : elements (values (take (k + 1) is)) ≡ elements (values (take k is)) ++ nullable here.0
  more = elements_more is k within here.0 here.1

  longer : length (elements (values (take (k + 1) is))) ≡ length (elements (values (take k is))) + length (nullable here.0)
  longer = ap length more ∙ length-append (elements (values (take k is))) (nullable here.0)

  fits_here : room_for (length (rest at part)) (nullable_item (item_at is k)) ≡ Ok (nullable here.0)
  fits_here =
      let front = elements_front is (k + 1) in
      let left : length (nullable here.0) ≤ length (rest at part) = rw (take_rest part at) (simp length-drop (omega (arith, longer))) in
      roomy (length (rest at part)) (nullable here.0) (ap nullable_item here.1) left

  pub turn_sound : first_fault (drop (k + 1) is) ≡ None
  turn_sound = sym (fault_on is k within here.0 here.1) ∙ sound

  pub turn_never : (f : Fault) → Err f ≡ told (room_for (length (rest at part)) (nullable_item (item_at is k))) → ⊥
  turn_never f e = let whole = e ∙ ap told fits_here in let z : ◌≡◌ {A = ℕ} 0 1 = cc in omega arith

  pub turn_place : (n : ℕ) → Ok n ≡ told (room_for (length (rest at part)) (nullable_item (item_at is k))) → at + n ≡ start + length (elements (values (take (k + 1) is)))
  turn_place n e = let whole = e ∙ ap told fits_here in let same : n ≡ length (nullable here.0) = cc in omega (arith, longer)

  pub turn_laid : (lent : List ℕ) → lent ≡ laid (room_for (length (rest at part)) (nullable_item (item_at is k))) (rest at part) → part ≡ put start (elements (values (take k is))) entry → put_mid at (length part - at) part lent ≡ put start (elements (values (take (k + 1) is))) entry
  turn_laid lent body was =
      let filling : lent ≡ over (nullable here.0) (drop at part) = body ∙ ap (λ e. laid e (rest at part)) fits_here ∙ ap (over (nullable here.0)) (take_rest part at) in
      put_on start at (elements (values (take k is))) (nullable here.0) entry (omega arith) place was (put_lent at (nullable here.0) part lent filling) ∙ ap (λ ws. put start ws entry) (sym more)
