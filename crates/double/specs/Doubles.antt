-- Doubles by their words: IEEE 754 binary64, with one NaN.
use Rattle.std.specs.Prelude.{ℕ, cond, from_bits, to_bits, Float}
use Rattle.std.specs.Float.{binary64}
use Rattle.std.specs.Float.Ieee.{nan_bits}

-- the word of a double; the NaN has 7FF8000000000000
abbrev pub double_word : Float → ℕ
double_word x = to_bits binary64 x

-- the double of a word; every pattern of a NaN is the one NaN
abbrev pub word_double : ℕ → Float
word_double w = from_bits binary64 w

-- a word as it is written again: every pattern of a NaN becomes the one
abbrev pub one_nan : ℕ → ℕ
one_nan w = cond (nan_bits binary64 w) 0x7FF8000000000000 w
