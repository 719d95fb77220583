-- From what a call answers to an answer.
use Rattle.std.proofs.Common.{◌≡◌, ℕ, min, List, length, take, drop, IfOk, Ok, Err, Result, sym, refl, ap, ◌∙◌, ⊎_elim, arith}
use Rattle.std.proofs.lemmas.List.{take_all, take_at}
use Rattle.std.proofs.lemmas.Result.{IfOk-weaker}
use Rattle.std.proofs.lemmas.Bool.{cases_lt}
use Rattle.fault.specs.declared.Fault.{Fault}
use Rattle.wire.specs.Encoding.{Encoding, told, laid}
use Rattle.answers.specs.Plain.{held}

-- the same text by another name
pub says : {X Y : Type 0} (items : X → List ℕ) (r : Result X Y) (xs ys : List ℕ) → xs ≡ ys → IfOk r (λ v. items v ≡ xs) → IfOk r (λ v. items v ≡ ys)
says items r xs ys e = IfOk-weaker r _ _ (λ v p. p ∙ e)

-- a part holds what its encoder wrote
held_laid : (e : Encoding) (before : List ℕ) → held (told e) (laid e before) ≡ e
held_laid (Ok ws) before = ap Ok (take_at ws (drop (length ws) before) (length ws) refl)
held_laid (Err f) before = refl

pub written_is : (e : Encoding) (before : List ℕ) {written : Result ℕ Fault} {part : List ℕ} → written ≡ told e → part ≡ laid e before → held written part ≡ e
written_is e before {part = part} p q = ap (λ w. held w part) p ∙ ap (held (told e)) q ∙ held_laid e before

-- as many bytes as there are
pub take_min : (n : ℕ) (bs : List ℕ) → take (min n (length bs)) bs ≡ take n bs
take_min n bs =
    ⊎_elim
    (λ h. ap (λ m. take m bs) (omega arith))
    (λ h. ap (λ m. take m bs) (omega arith) ∙ take_all (length bs) bs (omega arith) ∙ sym (take_all n bs h))
    (cases_lt n (length bs))
