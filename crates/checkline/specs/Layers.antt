-- The two layers.
use Rattle.std.specs.Prelude.{ℕ, List}
use Rattle.pile.specs.Piles as piles
use Rattle.pile.specs.Piles.{arrays, ranges, layer_verdict}
use Rattle.validator.specs.Places.{array_within, range_within}
use Rattle.validator.specs.Verdicts.{Verdict, Within}
use Rattle.checkline.specs.declared.layers.Layer.{Layer}
use Rattle.checkline.specs.declared.layers.Layer.TheVariants.{Array, Range}

-- the layer of a pile that is meant
abbrev pub named : Layer → piles.Layer
named Array = arrays
named Range = ranges

pub layer_within : (l : piles.Layer) (below : Verdict) → ((bs : List ℕ) → Within bs (below bs)) → (bs : List ℕ) → Within bs (layer_verdict l below bs)
layer_within arrays = array_within
layer_within ranges = range_within
