-- Words that are there, and such as lack bytes.
use Rattle.std.proofs.Common.{◌≡◌, ℕ, ◌+◌, ◌^◌, ◌<◌, ◌≤◌, List, length, get_or, take, drop, Ok, Err, subst, arith, w8, Fits}
use Rattle.std.proofs.lemmas.Int.Digits.{number_lt}
use Rattle.std.proofs.ByRecursion.{All-from_get_or, All-take, All-drop}
use Rattle.std.proofs.lemmas.List.{length-take-le, length-drop}
use Rattle.std.proofs.lemmas.Bool.{cond-true, cond-false, le-leb, lt-leb}
use Rattle.fault.specs.declared.Fault.{Fault}
use Rattle.fault.specs.declared.Rule.TheVariants.{Truncated}
use Rattle.wire.specs.Bytes.{Octets}
use Rattle.fault.specs.Faults.{fault}
use Rattle.wire.specs.Words.{word, uint_at}

-- what a slice of bytes holds
pub octets_typed : (bs : List ℕ) → ((i : ℕ) → Fits w8 (get_or bs i 0)) → Octets bs
octets_typed bs typed = All-from_get_or (λ b. b < 256) bs 0 (λ i h. let f = typed i in omega arith)

module _ (w : ℕ) (bs : List ℕ) (at : ℕ) where
  pub uint_fits : at + w ≤ length bs → uint_at w bs at ≡ Ok (word w bs at)
  uint_fits h = cond-true _ _ _ (le-leb _ _ h)

  pub uint_past : length bs < at + w → uint_at w bs at ≡ Err (fault Truncated at)
  uint_past h = cond-false _ _ _ (lt-leb _ _ h)

  -- where the bytes are there, a refusal is no way out
  pub uint_never : at + w ≤ length bs → (f : Fault) → Err f ≡ uint_at w bs at → ⊥
  uint_never h f e = let t = uint_fits h in let z : ◌≡◌ {A = ℕ} 0 1 = cc in omega arith

  -- and an answer is the word
  pub uint_is : at + w ≤ length bs → (n : ℕ) → Ok n ≡ uint_at w bs at → n ≡ word w bs at
  uint_is h n e = let t = uint_fits h in cc

  pub word_lt : Octets bs → at + w ≤ length bs → word w bs at < 256 ^ w
  word_lt small h =
      let cut = take w (drop at bs) in
      let long : length cut ≡ w = length-take-le w (drop at bs) (simp length-drop (omega arith)) in
      let bytes = All-take (λ b. b < 256) w (drop at bs) (All-drop (λ b. b < 256) at bs small) in
      subst (λ n. word w bs at < 256 ^ n) long (number_lt 256 cut bytes)
