-- A word as a bare payload, at every width.
use Rattle.std.proofs.Common.{◌≡◌, ℕ, ◌^◌, ◌<◌, List, [], length, ℤ, Ok, Err, Result, sym, refl, ap, ◌∙◌, subst, arith, SFits, to_z, of_z}
use mir.Facts.{Fits-of_z, sfits_to_z}
use mir.Syntax.{Width}
use mir.Val.{bits}
use Rattle.std.proofs.lemmas.List.{take_all, append-nil}
use Rattle.std.proofs.lemmas.Int.{to_z-of_z, of_z-to_z}
use Rattle.std.proofs.lemmas.Bool.{cond-false, le-ltb}
use Rattle.fault.specs.declared.Fault.{Fault}
use Rattle.wire.specs.Bytes.{Octets}
use Rattle.wire.specs.Words.{then, ended, be, word, uint_at, signed}
use Rattle.wire.proofs.Reading.{uint_fits, word_lt}
use Rattle.wire.proofs.Taking.{then_ok, uint_ok, ended_ok}
use Rattle.wire.proofs.Wording.{length_be, word_back, be_word}
use Rattle.scalar.specs.Words.{Exactly}

signed_ok : (w : Width) (r : Result ℕ Fault) (z : ℤ) → signed w r ≡ Ok z → (m : ℕ) × (r ≡ Ok m) × (to_z w m ≡ z)
signed_ok w (Ok m) z e = (m, refl, cc)
signed_ok w (Err f) z e = let z : ◌≡◌ {A = ℕ} 0 1 = cc in absurd (omega arith)

-- n bytes, which are just the bits of the width
module _ (w : Width) (n : ℕ) (bytes : 256 ^ n ≡ 2 ^ bits w) (bs : List ℕ) where
  abbrev recv : List ℕ → Result ℤ Fault
  recv l = then (signed w (uint_at n l 0)) (ended l n)

  told : Octets bs → (z : ℤ) → recv bs ≡ Ok z → SFits w z × (bs ≡ be n (of_z w z))
  told small z e =
      let t = then_ok (signed w (uint_at n bs 0)) (ended bs n) z e in
      let s = signed_ok w (uint_at n bs 0) t.0 t.1 in
      let u = uint_ok n bs 0 s.0 s.1 in
      let o = ended_ok bs n t.0 z t.2 in
      let m = word n bs 0 in
      let low : m < 2 ^ bits w = subst (λ k. m < k) bytes (word_lt n bs 0 small u.0) in
      let is : to_z w m ≡ z = ap (to_z w) u.1 ∙ s.2 ∙ o.1 in
      let number : of_z w z ≡ m = ap (of_z w) (sym is) ∙ of_z-to_z w m low in
      (subst (SFits w) is (sfits_to_z (record { fits = low })), sym (ap (be n) number ∙ be_word n bs 0 small u.0 ∙ take_all n bs o.0))

  back : (z : ℤ) → SFits w z → bs ≡ be n (of_z w z) → recv bs ≡ Ok z
  back z fits is =
      let m = of_z w z in
      let long : length bs ≡ n = ap length is ∙ length_be n m in
      let low : m < 256 ^ n = subst (λ k. m < k) (sym bytes) (Fits-of_z fits).fits in
      let read : word n bs 0 ≡ m = ap (λ l. word n l 0) (is ∙ sym (append-nil (be n m))) ∙ word_back n [] [] m 0 refl low in
      ap (λ r. then (signed w r) (ended bs n)) (uint_fits n bs 0 (omega arith) ∙ ap Ok read)
      ∙ ap (ended bs n) (to_z-of_z w z fits)
      ∙ cond-false _ _ _ (le-ltb n (length bs) (omega arith))

  pub exactly : Octets bs → Exactly w n recv bs
  exactly small z = (told small z, λ p. back z p.0 p.1)
