-- The words that stand in lists.
use Rattle.std.specs.Prelude.{ℕ, zero, suc, ◌-◌, ◌^◌, cond, List, [], ◌∷◌, ℤ, pos, negsuc, Some, None, codes, Option, ◌==◌}
use Rattle.std.specs.Option.{option_map}
use Rattle.std.specs.Str.{bytes_eq}
use Rattle.syntax.specs.Parsed.{number_in, split_at}
use Rattle.texts.specs.Places.{Place}
use Rattle.texts.specs.declared.place.Pool.{Pool}
use Rattle.texts.specs.declared.place.Pool.TheVariants.{House, Supplier}
use Rattle.texts.specs.declared.place.Span.{Span}

-- a number below zero
abbrev pub negated : Option ℕ → Option ℤ
negated (Some zero) = Some (pos zero)
negated (Some (suc n)) = Some (negsuc n)
negated None = None

-- a signed decimal number with h bits beside its sign: digits, and perhaps a minus in front
abbrev pub signed_in : ℕ → List ℕ → Option ℤ
signed_in h [] = None
signed_in h (c ∷ cs) = cond (c == 45) (negated (number_in (2 ^ h) cs)) (option_map pos (number_in (2 ^ h - 1) (c ∷ cs)))

-- NULL, or a word that is read
abbrev pub null_or : {X : Type 0} → (List ℕ → Option X) → List ℕ → Option (Option X)
null_or read w = cond (bytes_eq w (codes "NULL")) (Some None) (option_map Some (read w))

-- NULL, or a number
abbrev pub element_in : ℕ → List ℕ → Option (Option ℤ)
element_in h w = null_or (signed_in h) w

-- a pool by its letter
abbrev pub pool_in : List ℕ → Option Pool
pool_in w = cond (bytes_eq w (codes "h")) (Some House) (cond (bytes_eq w (codes "s")) (Some Supplier) None)

abbrev pub span_of : Option Pool → Option ℕ → Option ℕ → Option Span
span_of (Some p) (Some s) (Some n) = Some (record { pool = p; start = s; length = n })
span_of (Some p) (Some s) None = None
span_of (Some p) None n = None
span_of None s n = None

-- a start and a length, which a usize holds
abbrev pub span_in : List ℕ → Option (List ℕ × List ℕ) → Option Span
span_in p (Some q) = span_of (pool_in p) (number_in (2 ^ 64 - 1) q.0) (number_in (2 ^ 64 - 1) q.1)
span_in p None = None

abbrev pub parts_in : Option (List ℕ × List ℕ) → Option Span
parts_in (Some p) = span_in p.0 (split_at 58 p.1)
parts_in None = None

-- NULL, or h:START:LENGTH or s:START:LENGTH
abbrev pub place_in : List ℕ → Option Place
place_in w = null_or (λ v. parts_in (split_at 58 v)) w
