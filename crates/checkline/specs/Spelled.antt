-- How a pile is spelled: a bottom's name, under layers as array(..) and range(..).
use Rattle.std.specs.Prelude.{ℕ, zero, suc, ◌-◌, cond, List, [], ◌∷◌, ◌++◌, length, take, Some, None, codes, Option, ◌==◌, slice_index}
use Rattle.std.specs.Option.{option_map}
use Rattle.naming.specs.Names.{named}
use Rattle.syntax.specs.Parsed.{split_at}
use Rattle.checkline.specs.declared.bottom.Bottom.{Bottom}
use Rattle.checkline.specs.declared.bottom.Bottom.TheVariants.{Int4, Int8, Text, Point, Box, Path, Varbit, Hstore, Inet}
use Rattle.checkline.specs.declared.layers.Layer.{Layer}
use Rattle.checkline.specs.declared.layers.Layer.TheVariants.{Array, Range}

abbrev pub bottoms : List (List ℕ × Option Bottom)
bottoms =
    (codes "int4", Some Int4)
    ∷ (codes "int8", Some Int8)
    ∷ (codes "text", Some Text)
    ∷ (codes "point", Some Point)
    ∷ (codes "box", Some Box)
    ∷ (codes "path", Some Path)
    ∷ (codes "varbit", Some Varbit)
    ∷ (codes "hstore", Some Hstore)
    ∷ (codes "inet", Some Inet)
    ∷ []

-- the bottom that a word names
abbrev pub bottom_in : List ℕ → Option Bottom
bottom_in w = named None bottoms w

abbrev pub layers : List (List ℕ × Option Layer)
layers = (codes "array", Some Array) ∷ (codes "range", Some Range) ∷ []

abbrev pub layer_in : List ℕ → Option Layer
layer_in w = named None layers w

-- what stands before a parenthesis that closes a word
abbrev pub closed : List ℕ → Option (List ℕ)
closed w = cond (slice_index w (length w - 1) == 41) (Some (take (length w - 1) w)) None

abbrev pub around : Option Layer → Option (List ℕ) → Option (Layer × List ℕ)
around (Some l) (Some w) = Some (l, w)
around (Some l) None = None
around None w = None

abbrev pub around_parts : Option (List ℕ × List ℕ) → Option (Layer × List ℕ)
around_parts (Some p) = around (layer_in p.0) (closed p.1)
around_parts None = None

-- the outermost layer of a word and what stands in its parentheses
abbrev pub layer_around : List ℕ → Option (Layer × List ℕ)
layer_around w = around_parts (split_at 40 w)

-- layers, the outermost first, over a bottom
abbrev pub Pile : Type 0
Pile = List Layer × Bottom

-- more layers around those of a pile
abbrev pub onto : List Layer → Option Pile → Option Pile
onto ls o = option_map (λ p. (ls ++ p.0, p.1)) o

abbrev pub bare : List ℕ → Option Pile
bare w = option_map (λ b. ([], b)) (bottom_in w)

-- the pile that a word spells, of at most n layers
abbrev pub pile_under : (List ℕ → Option Pile) → List ℕ → Option (Layer × List ℕ) → Option Pile
pile_under deeper w (Some p) = onto (p.0 ∷ []) (deeper p.1)
pile_under deeper w None = bare w

abbrev pub pile_within : ℕ → List ℕ → Option Pile
pile_within zero w = bare w
pile_within (suc n) w = pile_under (pile_within n) w (layer_around w)

-- the greatest number of layers that a request may name
abbrev pub most_layers : ℕ
most_layers = 8

abbrev pub pile_in : List ℕ → Option Pile
pile_in w = pile_within most_layers w
