-- An item that a serializer has written behind its length word.
use Rattle.std.proofs.Common.{◌≡◌, ℕ, ◌+◌, ◌-◌, ◌≤◌, List, ◌++◌, length, take, drop, Some, Ok, sym, ap, ◌∙◌, zero-le, arith}
use borrow.Rule.Slice.PartMut.{put_mid}
use Rattle.std.proofs.lemmas.List.{take_rest, length-drop}
use Rattle.wire.specs.Bytes.{put, over}
use Rattle.wire.specs.Encoding.{told, laid, room_for}
use Rattle.wire.specs.Items.{Item, size_of, fitting, filled, nullable_item}
use Rattle.wire.specs.Words.{be}
use Rattle.wire.proofs.Fitting.{item_fits}
use Rattle.wire.proofs.Writing.{length_put, put_more, put_lent, put_start, roomy}
use Rattle.serializer.proofs.Items.{item_payload}

-- the part from a place on, as the checker lends it
abbrev pub rest : ℕ → List ℕ → List ℕ
rest at bs = take (length bs - at) (drop at bs)

module _ (i : Item) (n : ℕ) (part sized lent : List ℕ) (size : size_of i ≡ Ok (Some n)) (room : 4 + n ≤ length part) (head : sized ≡ put 0 (be 4 n) part) (body : lent ≡ filled (fitting (length (rest 4 sized)) i) (rest 4 sized)) where
  fitted : room_for (length part) (nullable_item i) ≡ Ok (be 4 n ++ (item_payload i n size).0)
  fitted =
      let p = item_payload i n size in
      roomy (length part) (be 4 n ++ p.0) (ap nullable_item p.1 ∙ ap (λ m. Ok (be 4 m ++ p.0)) p.2) (omega (arith, p.2))

  pub item_told : Ok (4 + n) ≡ told (room_for (length part) (nullable_item i))
  item_told =
      let long = (item_payload i n size).2 in
      ap Ok (omega arith) ∙ sym (ap told fitted)

  pub item_laid : put_mid 4 (length sized - 4) sized lent ≡ laid (room_for (length part) (nullable_item i)) part
  item_laid =
      let p = item_payload i n size in
      let long : length sized ≡ length part = ap length head ∙ length_put 0 (be 4 n) part (omega arith) in
      let left : length p.0 ≤ length (rest 4 sized) = rw (take_rest sized 4) (simp length-drop (omega (arith, p.2))) in
      let filling : lent ≡ over p.0 (drop 4 sized) = body ∙ ap (λ j. filled j (rest 4 sized)) (item_fits (length (rest 4 sized)) p.0 p.1 left) ∙ ap (over p.0) (take_rest sized 4) in
      put_lent 4 p.0 sized lent filling ∙ ap (put 4 p.0) head ∙ put_more 0 (be 4 n) p.0 part zero-le ∙ put_start (be 4 n ++ p.0) part ∙ sym (ap (λ e. laid e part) fitted)
