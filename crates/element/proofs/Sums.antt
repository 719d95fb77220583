-- The size of a run, one element more.
use Rattle.std.proofs.Common.{◌≡◌, ℕ, ◌+◌, ◌^◌, ◌<◌, ◌≤◌, List, [], ◌∷◌, ◌++◌, map, length, get_or, take, Some, None, Ok, Err, unwrap_or, sym, refl, ap, ◌∙◌, add_assoc, arith}
use Rattle.std.proofs.lemmas.List.{map_more}
use Rattle.std.proofs.lemmas.Bool.{cond-true, cond-false, lt-ltb, le-ltb}
use Rattle.std.specs.Option.{option_map}
use Rattle.fault.specs.declared.Rule.TheVariants.{TooGreat}
use Rattle.fault.specs.Faults.{fault}
use Rattle.wire.specs.Words.{Value}
use Rattle.element.specs.Totals.{extent, extents, total}

-- a size that is told is the number of bytes
pub extent_told : (v : Value) → unwrap_or (option_map length v) 0 ≡ extent v
extent_told None = refl
extent_told (Some bs) = refl

extents_push : (vs : List Value) (v : Value) → extents (vs ++ v ∷ []) ≡ extents vs + extent v
extents_push [] v = omega arith
extents_push (w ∷ vs) v = ap (λ n. extent w + n) (extents_push vs v) ∙ sym (add_assoc (extent w) (extents vs) (extent v))

pub extents_more : {X : Type 0} (value : X → Value) (xs : List X) (i : ℕ) (x : X) → i < length xs → x ≡ get_or xs i x → extents (map value (take (i + 1) xs)) ≡ extents (map value (take i xs)) + extent (value x)
extents_more value xs i x h e =
    ap extents (map_more value xs i x h) ∙ extents_push (map value (take i xs)) (value (get_or xs i x)) ∙ ap (λ y. extents (map value (take i xs)) + extent (value y)) (sym e)

pub total_fits : (vs : List Value) → extents vs < 2 ^ 31 → total vs ≡ Ok (extents vs)
total_fits vs h = cond-true _ _ _ (lt-ltb _ _ h)

pub total_past : (vs : List Value) → 2 ^ 31 ≤ extents vs → total vs ≡ Err (fault TooGreat 0)
total_past vs h = cond-false _ _ _ (le-ltb _ _ h)
