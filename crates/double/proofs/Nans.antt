-- A word that is read and written again.
use Rattle.std.proofs.Common.{◌≡◌, ℕ, ◌^◌, ◌<◌, Bool, true, false, cond, not, T, sym, refl, ap, ◌∙◌, subst}
use lib.Ieee.{Float, nan, inf, fin, binary64, is_nan, to_bits, of_bits, nan_bits}
use lib.Ieee.Bits.{to_bits-of_bits, nan_bits_is}
use Rattle.double.specs.Doubles.{double_word, word_double, one_nan}

nan_is : (x : Float) → is_nan x ≡ true → x ≡ nan
unfolding is_nan
nan_is nan e = refl
nan_is (inf s) e = cc
nan_is (fin s m k) e = cc

nan_word : to_bits binary64 nan ≡ 0x7FF8000000000000
unfolding to_bits
nan_word = refl

by_test : (w : ℕ) → w < 2 ^ 64 → (b : Bool) → nan_bits binary64 w ≡ b → double_word (word_double w) ≡ cond b 0x7FF8000000000000 w
by_test w fits true e = ap (to_bits binary64) (nan_is (of_bits binary64 w) (sym (nan_bits_is binary64 w) ∙ e)) ∙ nan_word
by_test w fits false e = to_bits-of_bits binary64 w fits (subst (λ b. T (not b)) (sym e ∙ nan_bits_is binary64 w) tt)

pub written_again : (w : ℕ) → w < 2 ^ 64 → double_word (word_double w) ≡ one_nan w
written_again w fits = by_test w fits (nan_bits binary64 w) refl
