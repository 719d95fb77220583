-- Doubles by the 16 hexadecimal digits of their words, and pairs of them.
use Rattle.std.specs.Prelude.{ℕ, ◌+◌, ◌*◌, cond, List, [], ◌∷◌, ◌++◌, length, Some, None, Option, ◌==◌, Float}
use Rattle.std.specs.Option.{option_map}
use Rattle.double.specs.declared.point.Point.{Point}
use Rattle.double.specs.Doubles.{double_word, word_double}
use Rattle.double.specs.Points.{point}
use Rattle.syntax.specs.Parsed.{nibble, split_at}
use Rattle.syntax.specs.Printed.{hex}
use Rattle.wire.specs.Words.{be}

-- the digits of a double's word; every NaN has the same
unfoldable pub double_text : Float → List ℕ
double_text x = hex (be 8 (double_word x))

-- the coordinates of a point with a separator between them
abbrev pub point_text : ℕ → Point → List ℕ
point_text sep p = double_text p.x ++ (sep ∷ double_text p.y)

-- one more hexadecimal digit
abbrev pub with_nibble : ℕ → Option ℕ → Option ℕ
with_nibble n d = option_map (λ m. n * 16 + m) d

abbrev pub hex_after : Option ℕ → List ℕ → Option ℕ
hex_after o [] = o
hex_after (Some n) (c ∷ cs) = hex_after (with_nibble n (nibble c)) cs
hex_after None (c ∷ cs) = None

-- the word that exactly 16 digits make
abbrev pub word_in : List ℕ → Option ℕ
word_in w = cond (length w == 16) (hex_after (Some 0) w) None

abbrev pub double_in : List ℕ → Option Float
double_in w = option_map word_double (word_in w)

abbrev pub point_of : Option Float → Option Float → Option Point
point_of (Some x) (Some y) = Some (point x y)
point_of (Some x) None = None
point_of None y = None

abbrev pub point_parts : Option (List ℕ × List ℕ) → Option Point
point_parts (Some p) = point_of (double_in p.0) (double_in p.1)
point_parts None = None

-- the point that two words make
abbrev pub point_in : ℕ → List ℕ → Option Point
point_in sep w = point_parts (split_at sep w)
