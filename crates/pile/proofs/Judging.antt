-- An item that is written and judged.
use Rattle.std.proofs.Common.{◌≡◌, ℕ, Bool, true, false, cond, leb, List, length, take, drop, Some, None, Ok, Err, sym, refl, ap, ◌∙◌, arith}
use Rattle.std.proofs.lemmas.List.{take_at}
use Rattle.fault.specs.declared.Rule.TheVariants.{NoRoom}
use Rattle.fault.specs.Faults.{fault}
use Rattle.wire.specs.declared.oid.IsNull.{IsNull}
use Rattle.wire.specs.Items.{Item, size_of, null_of, fitting, filled}
use Rattle.validator.specs.Verdicts.{Outcome, Verdict}
use Rattle.pile.specs.Match.{NotRefused, judged}

module _ (v : Verdict) (bs : List ℕ) (n : ℕ) (null : IsNull) (part last : List ℕ) (o : Outcome) where
  payload_judged : (b : Bool) → n ≡ length bs → Ok null ≡ null_of (cond b (Ok (Some bs)) (Err (fault NoRoom 0))) → last ≡ filled (cond b (Ok (Some bs)) (Err (fault NoRoom 0))) part → o ≡ v (take n last) → Ok (Some o) ≡ judged v (cond b (Ok (Some bs)) (Err (fault NoRoom 0)))
  payload_judged false long e w is = let z : ◌≡◌ {A = ℕ} 0 1 = cc in absurd (omega arith)
  payload_judged true long e w is =
      let here : take n last ≡ bs = ap (take n) w ∙ take_at bs (drop (length bs) part) n (sym long) in
      ap (λ x. Ok (Some x)) (is ∙ ap v here)

-- a payload that was written is judged
pub item_judged : (v : Verdict) (room : ℕ) (i : Item) (n : ℕ) (null : IsNull) (part last : List ℕ) (o : Outcome) → Ok (Some n) ≡ size_of i → Ok null ≡ null_of (fitting room i) → last ≡ filled (fitting room i) part → o ≡ v (take n last) → Ok (Some o) ≡ judged v (fitting room i)
item_judged v room (Ok None) n null part last o size e w is = let z : ◌≡◌ {A = ℕ} 0 1 = cc in absurd (omega arith)
item_judged v room (Ok (Some bs)) n null part last o size e w is = payload_judged v bs n null part last o (leb (length bs) room) (cc) e w is
item_judged v room (Err f) n null part last o size e w is = let z : ◌≡◌ {A = ℕ} 0 1 = cc in absurd (omega arith)

fits_by : (bs cs : List ℕ) (b : Bool) → cond b (Ok (Some bs)) (Err (fault NoRoom 0)) ≡ Ok (Some cs) → bs ≡ cs
fits_by bs cs true e = cc
fits_by bs cs false e = let z : ◌≡◌ {A = ℕ} 0 1 = cc in absurd (omega arith)

-- a payload that fits is the item's
pub fitting_payload : (room : ℕ) (i : Item) (cs : List ℕ) → fitting room i ≡ Ok (Some cs) → i ≡ Ok (Some cs)
fitting_payload room (Ok None) cs e = let z : ◌≡◌ {A = ℕ} 0 1 = cc in absurd (omega arith)
fitting_payload room (Ok (Some bs)) cs e = ap (λ x. Ok (Some x)) (fits_by bs cs (leb (length bs) room) e)
fitting_payload room (Err f) cs e = let z : ◌≡◌ {A = ℕ} 0 1 = cc in absurd (omega arith)

pub accepted_so : (v : Verdict) (i : Item) → ((bs : List ℕ) → i ≡ Ok (Some bs) → v bs ≡ Ok tt) → NotRefused (judged v i)
accepted_so v (Ok None) h = tt
accepted_so v (Ok (Some bs)) h = h bs refl
accepted_so v (Err f) h = tt
