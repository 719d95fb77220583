-- A cursor reads the same parts every time.
use Rattle.std.proofs.Common.{◌≡◌, ℕ, List, ◌∷◌, Some, None, Ok, sym, refl, ap, ◌∙◌, arith}
use Rattle.wire.specs.Cursor.{State, Reader, Answer, step, Reads, end, more}

module _ {X : Type 0} (read : Reader X) where
  -- an end is no part
  apart : {t u : State} {x : X} → ◌≡◌ {A = Answer X × State} (Ok None, t) (Ok (Some x), u) → ⊥
  apart e =
      let a = ap (λ q. q.0) e in
      let z : ◌≡◌ {A = ℕ} 0 1 = cc in
      omega arith

  -- the states are tied by an equation, so that the recursion stays on the readings themselves
  same_from : {s t : State} {xs ys : List X} → Reads read s xs → Reads read t ys → s ≡ t → xs ≡ ys
  same_from (end e) (end f) is = refl
  same_from (end e) (more f rest) is = absurd (apart (sym e ∙ ap (step read) is ∙ f))
  same_from (more e rest) (end f) is = absurd (apart (sym f ∙ ap (step read) (sym is) ∙ e))
  same_from (more {x = x} {xs = xs} e rest) (more {x = y} {xs = ys} f others) is =
      let both = sym e ∙ ap (step read) is ∙ f in
      let first : x ≡ y = let a = ap (λ q. q.0) both in cc in
      ap (λ z. z ∷ xs) first ∙ ap (λ zs. y ∷ zs) (same_from rest others (ap (λ q. q.1) both))

  pub reads_same : {s : State} {xs ys : List X} → Reads read s xs → Reads read s ys → xs ≡ ys
  reads_same rs ss = same_from rs ss refl
