use Rattle.std.proofs.Common.{ap, ◌∙◌}
use Rattle.double.specs.Doubles.{double_word}
use Rattle.double.proofs.Nans.{written_again}
use Rattle.double.proofs.word.from_word.Goals as goal

pub returns : goal.returns
returns c = record { double = c.f64_from_bits_with_nan.ensures; back = ap double_word c.f64_from_bits_with_nan.ensures ∙ written_again c.args.word c.ranges.word.fits }
