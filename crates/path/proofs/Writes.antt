-- The writes of a path, one behind another.
use Rattle.std.proofs.Common.{◌≡◌, ℕ, ◌+◌, ◌^◌, ◌<◌, ◌≤◌, Bool, true, false, cond, List, [], ◌∷◌, ◌++◌, length, Ok, refl, ap, ◌∙◌, arith}
use mir.Val.{bool_byte}
use Rattle.std.proofs.lemmas.Bool.{lt-ltb, cond-true}
use Rattle.double.specs.declared.point.Point.{Point}
use Rattle.geometry.specs.Layout.{points_layout}
use Rattle.wire.specs.Bytes.{put, over}
use Rattle.wire.specs.Encoding.{told_at, laid_at}
use Rattle.wire.specs.Words.{be}
use Rattle.wire.proofs.Writing.{laid_fits, told_on, laid_on, put_start}
use Rattle.path.specs.Layout.{path_layout, path_encoding}

pub encoding_is : (closed : Bool) (ps : List Point) → length ps < 2 ^ 31 → path_encoding closed ps ≡ Ok (path_layout closed ps)
encoding_is closed ps few = cond-true _ _ _ (lt-ltb (length ps) (2 ^ 31) few)

byte_is : (b : Bool) → be 1 (bool_byte b) ≡ cond b 1 0 ∷ []
byte_is true = refl
byte_is false = refl

module _ (closed : Bool) (ps : List Point) (part : List ℕ) {p₁ p₂ : List ℕ} (room : 5 + length (points_layout ps) ≤ length part) (e₁ : p₁ ≡ laid_at 0 (be 1 (bool_byte closed)) part) (e₂ : p₂ ≡ laid_at 1 (be 4 (length ps)) p₁) where
  abbrev head : List ℕ
  head = (cond closed 1 0 ∷ []) ++ be 4 (length ps)

  head_laid : p₂ ≡ put 0 head part
  head_laid =
      let byte = cond closed 1 0 ∷ [] in
      let q₁ = e₁ ∙ ap (λ ws. laid_at 0 ws part) (byte_is closed) ∙ laid_fits 0 byte part (omega arith) in
      e₂ ∙ laid_on 0 1 byte (be 4 (length ps)) part _ (omega arith) refl q₁

  pub points_told : told_at 5 (points_layout ps) p₂ ≡ Ok (5 + length (points_layout ps))
  points_told = told_on 0 5 head (points_layout ps) part p₂ room refl head_laid

  pub laid_out : {p₃ : List ℕ} → p₃ ≡ laid_at 5 (points_layout ps) p₂ → p₃ ≡ over (path_layout closed ps) part
  laid_out e₃ = e₃ ∙ laid_on 0 5 head (points_layout ps) part p₂ room refl head_laid ∙ put_start (path_layout closed ps) part
