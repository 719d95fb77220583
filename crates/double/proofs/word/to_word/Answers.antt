use Rattle.std.proofs.Common.{T, sym, ap, ◌∙◌, subst}
use lib.Ieee.{binary64}
use lib.Ieee.Bits.{of_bits-to_bits}
use Rattle.double.specs.Doubles.{word_double}
use Rattle.double.proofs.word.to_word.Goals as goal

pub returns : goal.returns
returns c = record { word = c.f64_to_bits_with_nan.ensures; back = ap word_double c.f64_to_bits_with_nan.ensures ∙ of_bits-to_bits binary64 c.args.x (subst T (sym c.well_formed.0.1) tt) }
