-- The whole layout of a range, as the encoder comes to it.
use Rattle.std.proofs.Common.{◌≡◌, ℕ, ◌+◌, ◌%◌, ◌<◌, ◌≤◌, List, ◌∷◌, ◌++◌, length, Ok, Err, Result, sym, refl, ap, ◌∙◌, zero-le, mod-eq_of_lt, arith}
use Rattle.std.proofs.lemmas.List.{length-append}
use Rattle.fault.specs.declared.Fault.{Fault}
use Rattle.fault.specs.declared.Rule.TheVariants.{NoRoom}
use Rattle.fault.specs.Faults.{fault}
use Rattle.wire.specs.Bytes.{put, over}
use Rattle.wire.specs.Encoding.{told, laid, room_for, laid_at}
use Rattle.wire.specs.Items.{Item}
use Rattle.wire.specs.Words.{Value, be, then}
use Rattle.wire.proofs.Writing.{laid_fits, put_on, put_start, roomy, no_room}
use Rattle.serializer.specs.Lists.{item_at}
use Rattle.range.specs.declared.bound.RangeBound.{RangeBound}
use Rattle.range.specs.declared.bound.RangeBound.TheVariants.{Inclusive, Exclusive, Unbounded}
use Rattle.range.specs.Encoding.{bytes, bound_item, bound_encoding, range_encoding}
use Rattle.range.specs.Layout.{side_tag, tag, bound, range_layout}
use Rattle.wire.proofs.Taking.{then_ok}
use Rattle.range.proofs.Layouts.{tagged_as}

-- a side that was measured: its bound with the item, and the bytes
pub record Measured (is : List Item) (side : RangeBound ℕ) (n : ℕ) : Type 0 where
  pub with : RangeBound Value
  pub item : bound_item is side ≡ Ok with
  pub long : n ≡ length (bound with)
  pub laid : bytes (bound_encoding is side) ≡ bound with

item_measured : (is : List Item) (side : RangeBound ℕ) (n : ℕ) (r : Result (RangeBound Value) Fault) → bound_item is side ≡ r → Ok n ≡ told (then r (λ b. Ok (bound b))) → Measured is side n
item_measured is side n (Ok b) e size = record { with = b; item = e; long = cc; laid = ap (λ r. bytes (then r (λ v. Ok (bound v)))) e }
item_measured is side n (Err f) e size = let z : ◌≡◌ {A = ℕ} 0 1 = cc in absurd (omega arith)

pub measured : (is : List Item) (side : RangeBound ℕ) (n : ℕ) → Ok n ≡ told (bound_encoding is side) → Measured is side n
measured is side n size = item_measured is side n (bound_item is side) refl size

module _ (is : List Item) (inclusive unbounded : ℕ) where
  kind_tag : (k : ℕ) (kind : Value → RangeBound Value) (b : RangeBound Value) (n : ℕ) → ((v : Value) → side_tag inclusive unbounded (kind v) ≡ n) → then (item_at is k) (λ v. Ok (kind v)) ≡ Ok b → n ≡ side_tag inclusive unbounded b
  kind_tag k kind b n same e =
      let t = then_ok (item_at is k) (λ v. Ok (kind v)) b e in
      let rest = t.2 in
      let is-kind : kind t.0 ≡ b = cc in
      sym (same t.0) ∙ ap (side_tag inclusive unbounded) is-kind

  -- a bound has the tag bits of its side
  same_tag : (side : RangeBound ℕ) (b : RangeBound Value) → bound_item is side ≡ Ok b → side_tag inclusive unbounded side ≡ side_tag inclusive unbounded b
  same_tag (Inclusive k) b e = kind_tag k Inclusive b inclusive (λ v. refl) e
  same_tag (Exclusive k) b e = kind_tag k Exclusive b 0 (λ v. refl) e
  same_tag Unbounded b e = let same : Unbounded ≡ b = cc in ap (side_tag inclusive unbounded) same

module _ (is : List Item) (lower upper : RangeBound ℕ) (first second : ℕ) (l : Measured is lower first) (u : Measured is upper second) (part : List ℕ) where
  encoding_is : range_encoding is lower upper ≡ Ok (range_layout l.with u.with)
  encoding_is =
      ap (λ r. then r (λ x. then (bound_item is upper) (λ y. Ok (range_layout x y)))) l.item
      ∙ ap (λ r. then r (λ y. Ok (range_layout l.with y))) u.item

  length_layout : length (range_layout l.with u.with) ≡ 1 + first + second
  length_layout = omega (arith, length-append (bound l.with) (bound u.with), l.long, u.long)

  pub range_sized : Ok (1 + first + second) ≡ told (range_encoding is lower upper)
  range_sized = ap Ok (sym length_layout) ∙ sym (ap told encoding_is)

  pub refused : length part < 1 + first + second → room_for (length part) (range_encoding is lower upper) ≡ Err (fault NoRoom 0)
  refused less = no_room (length part) (range_layout l.with u.with) encoding_is (omega (arith, length_layout))

  granted : 1 + first + second ≤ length part → room_for (length part) (range_encoding is lower upper) ≡ Ok (range_layout l.with u.with)
  granted room = roomy (length part) (range_layout l.with u.with) encoding_is (omega (arith, length_layout))

  pub range_told : (at : ℕ) → 1 + first + second ≤ length part → at ≡ 1 + length (bytes (bound_encoding is lower)) → Ok (at + length (bytes (bound_encoding is upper))) ≡ told (room_for (length part) (range_encoding is lower upper))
  range_told at room place =
      let end : at + length (bytes (bound_encoding is upper)) ≡ length (range_layout l.with u.with) = omega (arith, ap length l.laid, ap length u.laid, l.long, u.long, length_layout) in
      ap Ok end ∙ sym (ap told (granted room))

  tag_byte : tag lower upper % 256 ≡ tag l.with u.with
  tag_byte =
      ap (λ n. (n + side_tag 4 16 upper) % 256) (same_tag is 2 8 lower l.with l.item)
      ∙ ap (λ n. (side_tag 2 8 l.with + n) % 256) (same_tag is 4 16 upper u.with u.item)
      ∙ mod-eq_of_lt (tagged_as l.with u.with).byte

  -- the writes of the encoder, one behind the other
  pub range_laid : (byte at : ℕ) {p₁ p₂ p₃ : List ℕ} → 1 + first + second ≤ length part → byte ≡ tag lower upper → at ≡ 1 + length (bytes (bound_encoding is lower))
      → p₁ ≡ laid_at 0 (be 1 byte) part → p₂ ≡ put 1 (bytes (bound_encoding is lower)) p₁ → p₃ ≡ put at (bytes (bound_encoding is upper)) p₂ → p₃ ≡ laid (room_for (length part) (range_encoding is lower upper)) part
  range_laid byte at room is-tag place e₁ e₂ e₃ =
      let ws = bytes (bound_encoding is lower) in
      let vs = bytes (bound_encoding is upper) in
      let q₁ = e₁ ∙ laid_fits 0 (be 1 byte) part (omega arith) in
      let q₂ = put_on 0 1 (be 1 byte) ws part zero-le refl q₁ e₂ in
      let q₃ = put_on 0 at (be 1 byte ++ ws) vs part zero-le (omega arith) q₂ e₃ in
      q₃ ∙ put_start ((be 1 byte ++ ws) ++ vs) part
      ∙ ap (λ n. over (n ∷ (ws ++ vs)) part) (ap (λ n. n % 256) is-tag ∙ tag_byte)
      ∙ ap (λ xs. over (tag l.with u.with ∷ (xs ++ vs)) part) l.laid
      ∙ ap (λ xs. over (tag l.with u.with ∷ (bound l.with ++ xs)) part) u.laid
      ∙ sym (ap (λ e. laid e part) (granted room))
