-- Writing one side of a range.
use Rattle.std.proofs.Common.{◌≡◌, ℕ, ◌+◌, ◌-◌, ◌≤◌, true, ◌⊎◌, List, length, is_ok, Ok, Err, sym, refl, ap, ◌∙◌, ⊎_elim, arith}
use borrow.Rule.Slice.PartMut.{put_mid}
use Rattle.std.proofs.lemmas.List.{take_rest, length-drop}
use Rattle.wire.specs.Bytes.{put, over}
use Rattle.wire.specs.Encoding.{Encoding, told, laid, room_for}
use Rattle.wire.specs.Items.{Item, nullable, nullable_item}
use Rattle.wire.specs.Words.{Value, then}
use Rattle.wire.proofs.Writing.{put_lent, roomy}
use Rattle.serializer.specs.Lists.{item_at}
use Rattle.serializer.proofs.Written.{rest}
use Rattle.range.specs.declared.bound.RangeBound.{RangeBound}
use Rattle.range.specs.declared.bound.RangeBound.TheVariants.{Inclusive, Exclusive}
use Rattle.range.specs.Encoding.{bytes, bound_encoding}
use Rattle.range.specs.Layout.{bound}

sound_bytes : (e : Encoding) → is_ok e ≡ true → e ≡ Ok (bytes e)
sound_bytes (Ok ws) h = refl
sound_bytes (Err f) h = cc

-- of either kind, a bound has the bytes of its item
item_bytes : (i : Item) (kind : Value → RangeBound Value) → ((v : Value) → bound (kind v) ≡ nullable v) → then (then i (λ v. Ok (kind v))) (λ b. Ok (bound b)) ≡ nullable_item i
item_bytes (Ok v) kind same = ap Ok (same v)
item_bytes (Err f) kind same = refl

module _ (is : List Item) (side : RangeBound ℕ) (k at : ℕ) (part : List ℕ) (named : (side ≡ Inclusive k) ⊎ (side ≡ Exclusive k)) (sound : is_ok (bound_encoding is side) ≡ true) (room : at + length (bytes (bound_encoding is side)) ≤ length part) where
  side_item : bound_encoding is side ≡ nullable_item (item_at is k)
  side_item =
      ⊎_elim
      (λ e. ap (bound_encoding is) e ∙ item_bytes (item_at is k) Inclusive (λ v. refl))
      (λ e. ap (bound_encoding is) e ∙ item_bytes (item_at is k) Exclusive (λ v. refl))
      named

  fits_here : room_for (length (rest at part)) (nullable_item (item_at is k)) ≡ Ok (bytes (bound_encoding is side))
  fits_here =
      let ws = bytes (bound_encoding is side) in
      let left : length ws ≤ length (rest at part) = rw (take_rest part at) (simp length-drop (omega arith)) in
      roomy (length (rest at part)) ws (sym side_item ∙ sound_bytes (bound_encoding is side) sound) left

  pub side_told : (n : ℕ) → Ok n ≡ told (room_for (length (rest at part)) (nullable_item (item_at is k))) → n ≡ length (bytes (bound_encoding is side))
  side_told n e = let whole = e ∙ ap told fits_here in cc

  pub side_laid : (lent : List ℕ) → lent ≡ laid (room_for (length (rest at part)) (nullable_item (item_at is k))) (rest at part) → put_mid at (length part - at) part lent ≡ put at (bytes (bound_encoding is side)) part
  side_laid lent body =
      let ws = bytes (bound_encoding is side) in
      put_lent at ws part lent (body ∙ ap (λ e. laid e (rest at part)) fits_here ∙ ap (over ws) (take_rest part at))
