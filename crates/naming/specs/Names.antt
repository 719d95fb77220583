-- What a word names, by a table.
use Rattle.std.specs.Prelude.{ℕ, cond, List, [], ◌∷◌}
use Rattle.std.specs.Str.{bytes_eq}

-- the first row with this name; another value where there is none
abbrev pub named : {X : Type 0} → X → List (List ℕ × X) → List ℕ → X
named other [] word = other
named other (row ∷ rows) word = cond (bytes_eq word row.0) row.1 (named other rows word)
