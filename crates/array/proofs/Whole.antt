-- The whole layout of an array, as the encoder comes to it.
use Rattle.std.proofs.Common.{◌≡◌, ℕ, ◌+◌, ◌*◌, ◌^◌, ◌<◌, ◌≤◌, Bool, true, false, cond, List, ◌++◌, length, None, Ok, refl, ap, ◌∙◌, zero-le, arith}
use mir.Val.{bool_byte}
use Rattle.std.proofs.lemmas.List.{length-append}
use Rattle.std.proofs.lemmas.Bool.{lt-ltb}
use Rattle.wire.specs.Bytes.{put, over}
use Rattle.wire.specs.Encoding.{laid_at}
use Rattle.wire.specs.Items.{Item}
use Rattle.wire.specs.Words.{Value, be}
use Rattle.wire.proofs.Writing.{laid_fits, laid_on, put_on, put_start}
use Rattle.serializer.specs.Lists.{values, first_fault}
use Rattle.array.specs.declared.dimension.ArrayDimension.{ArrayDimension}
use Rattle.array.specs.Encoding.{array_encoding}
use Rattle.array.specs.Layout.{dimensions, elements, has_null, array_layout}
use Rattle.array.proofs.Dimensions.{length_dimensions}

pub encoding_is : (ds : List ArrayDimension) (oid : ℕ) (is : List Item) → first_fault is ≡ None → length ds < 2 ^ 31 → array_encoding ds oid is ≡ Ok (array_layout ds oid (values is))
encoding_is ds oid is sound few = let test = lt-ltb (length ds) (2 ^ 31) few in rw (sound, test)

pub length_layout : (ds : List ArrayDimension) (oid : ℕ) (vs : List Value) → length (array_layout ds oid vs) ≡ 12 + 8 * length ds + length (elements vs)
length_layout ds oid vs = omega (arith, length-append (dimensions ds) (elements vs), length_dimensions ds)

-- the writes of the encoder, one behind the other
pub laid_out : (ds : List ArrayDimension) (oid flag : ℕ) (vs : List Value) (part : List ℕ) {p₁ p₂ p₃ p₄ p₅ : List ℕ} → 12 ≤ length part → flag ≡ cond (has_null vs) 1 0
    → p₁ ≡ laid_at 0 (be 4 (length ds)) part → p₂ ≡ laid_at 4 (be 4 flag) p₁ → p₃ ≡ laid_at 8 (be 4 oid) p₂ → p₄ ≡ put 12 (dimensions ds) p₃ → p₅ ≡ put (12 + 8 * length ds) (elements vs) p₄ → p₅ ≡ over (array_layout ds oid vs) part
laid_out ds oid flag vs part room nulls e₁ e₂ e₃ e₄ e₅ =
    let head = be 4 (length ds) ++ (be 4 flag ++ be 4 oid) in
    let q₁ = e₁ ∙ laid_fits 0 (be 4 (length ds)) part (omega arith) in
    let q₂ = e₂ ∙ laid_on 0 4 (be 4 (length ds)) (be 4 flag) part _ (omega arith) refl q₁ in
    let q₃ = e₃ ∙ laid_on 0 8 (be 4 (length ds) ++ be 4 flag) (be 4 oid) part _ (omega arith) refl q₂ in
    let q₄ = put_on 0 12 head (dimensions ds) part zero-le refl q₃ e₄ in
    let long : 12 + 8 * length ds ≡ 0 + length (head ++ dimensions ds) = omega (arith, length_dimensions ds) in
    let q₅ = put_on 0 (12 + 8 * length ds) (head ++ dimensions ds) (elements vs) part zero-le long q₄ e₅ in
    q₅ ∙ put_start ((head ++ dimensions ds) ++ elements vs) part
    ∙ ap (λ n. over (be 4 (length ds) ++ (be 4 n ++ (be 4 oid ++ (dimensions ds ++ elements vs)))) part) nulls

pub flag_is : (b : Bool) → bool_byte b ≡ cond b 1 0
flag_is true = refl
flag_is false = refl
