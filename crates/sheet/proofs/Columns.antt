-- Writing one column.
use Rattle.std.proofs.Common.{◌≡◌, ℕ, ◌+◌, ◌-◌, ◌≤◌, true, List, ◌++◌, length, is_ok, Ok, Err, refl, ap, ◌∙◌, arith}
use borrow.Rule.Slice.PartMut.{put_mid}
use Rattle.std.proofs.lemmas.List.{take_rest, length-drop}
use Rattle.range.specs.Encoding.{bytes}
use Rattle.serializer.proofs.Written.{rest}
use Rattle.wire.specs.Bytes.{put, over}
use Rattle.wire.specs.Encoding.{told, laid, room_for, laid_at}
use Rattle.wire.specs.Items.{Item, nullable_item}
use Rattle.wire.specs.Words.{be}
use Rattle.wire.proofs.Writing.{laid_fits, length_put, put_lent, put_on, roomy}

sound_bytes : (i : Item) → is_ok i ≡ true → nullable_item i ≡ Ok (bytes (nullable_item i))
sound_bytes (Ok v) h = refl
sound_bytes (Err f) h = cc

module _ (i : Item) (at to oid : ℕ) (b p lent : List ℕ) (sound : is_ok i ≡ true) (room : at + 4 + length (bytes (nullable_item i)) ≤ length b) (head : p ≡ laid_at at (be 4 oid) b) (place : to ≡ at + 4) where
  headed : p ≡ put at (be 4 oid) b
  headed = head ∙ laid_fits at (be 4 oid) b (omega arith)

  long : length p ≡ length b
  long = ap length headed ∙ length_put at (be 4 oid) b (omega arith)

  fits_here : room_for (length (rest to p)) (nullable_item i) ≡ Ok (bytes (nullable_item i))
  fits_here =
      let left : length (bytes (nullable_item i)) ≤ length (rest to p) = rw (take_rest p to) (simp length-drop (omega (arith, long))) in
      roomy (length (rest to p)) (bytes (nullable_item i)) (sound_bytes i sound) left

  pub column_told : (n : ℕ) → Ok n ≡ told (room_for (length (rest to p)) (nullable_item i)) → to + n ≡ at + 4 + length (bytes (nullable_item i))
  column_told n e = let whole = e ∙ ap told fits_here in let same : n ≡ length (bytes (nullable_item i)) = cc in omega arith

  pub column_laid : lent ≡ laid (room_for (length (rest to p)) (nullable_item i)) (rest to p) → put_mid to (length p - to) p lent ≡ put at (be 4 oid ++ bytes (nullable_item i)) b
  column_laid body =
      let filled = put_lent to (bytes (nullable_item i)) p lent (body ∙ ap (λ e. laid e (rest to p)) fits_here ∙ ap (over (bytes (nullable_item i))) (take_rest p to)) in
      put_on at to (be 4 oid) (bytes (nullable_item i)) b (omega arith) place headed filled
