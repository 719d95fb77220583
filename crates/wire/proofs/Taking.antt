-- What an answer tells of the bytes that it was read from.
use Rattle.std.proofs.Common.{◌≡◌, ℕ, ◌+◌, ◌^◌, ◌<◌, ◌≤◌, Bool, true, false, cond, ltb, leb, List, length, ℤ, pos, negsuc, Ok, Err, Result, sym, refl, ap, ◌∙◌, arith, w32, to_z}
use Rattle.std.proofs.lemmas.Bool.{leb-true, ltb-true, ltb-false}
use Rattle.fault.specs.declared.Fault.{Fault}
use Rattle.fault.specs.declared.Rule.TheVariants.{Truncated, Trailing}
use Rattle.fault.specs.Faults.{fault}
use Rattle.wire.specs.Words.{then, ended, word, uint_at, signed, i32_at, natural, count_at}

-- a value that came through
pub then_ok : {X Y : Type 0} (r : Result X Fault) (on : X → Result Y Fault) (y : Y) → then r on ≡ Ok y → (x : X) × (r ≡ Ok x) × (on x ≡ Ok y)
then_ok (Ok x) on y e = (x, refl, e)
then_ok (Err f) on y e = let z : ◌≡◌ {A = ℕ} 0 1 = cc in absurd (omega arith)

-- a test that was passed
pub passed : {X : Type 0} (b : Bool) (r : Result X Fault) (f : Fault) (x : X) → Ok x ≡ cond b r (Err f) → (b ≡ true) × (Ok x ≡ r)
passed true r f x e = (refl, e)
passed false r f x e = let z : ◌≡◌ {A = ℕ} 0 1 = cc in absurd (omega arith)

-- no byte remained
ended_by : {X : Type 0} (bs : List ℕ) (at : ℕ) (x y : X) (b : Bool) → ltb at (length bs) ≡ b → cond b (Err (fault Trailing at)) (Ok x) ≡ Ok y → (length bs ≤ at) × (x ≡ y)
ended_by bs at x y true t e = let z : ◌≡◌ {A = ℕ} 0 1 = cc in absurd (omega arith)
ended_by bs at x y false t e = (ltb-false at (length bs) t, cc)

pub ended_ok : {X : Type 0} (bs : List ℕ) (at : ℕ) (x y : X) → ended bs at x ≡ Ok y → (length bs ≤ at) × (x ≡ y)
ended_ok bs at x y e = ended_by bs at x y (ltb at (length bs)) refl e

-- a word that was read
pub uint_ok : (w : ℕ) (bs : List ℕ) (at n : ℕ) → uint_at w bs at ≡ Ok n → (at + w ≤ length bs) × (word w bs at ≡ n)
uint_ok w bs at n e =
    let p = passed (leb (at + w) (length bs)) (Ok (word w bs at)) (fault Truncated at) n (sym e) in
    let same : word w bs at ≡ n = let q = p.1 in cc in
    (leb-true (at + w) (length bs) p.0, same)

signed_ok : (r : Result ℕ Fault) (z : ℤ) → signed w32 r ≡ Ok z → (n : ℕ) × (r ≡ Ok n) × (to_z w32 n ≡ z)
signed_ok (Ok n) z e = (n, refl, cc)
signed_ok (Err f) z e = let z : ◌≡◌ {A = ℕ} 0 1 = cc in absurd (omega arith)

pub i32_ok : (bs : List ℕ) (at : ℕ) (z : ℤ) → i32_at bs at ≡ Ok z → (at + 4 ≤ length bs) × (to_z w32 (word 4 bs at) ≡ z)
i32_ok bs at z e =
    let s = signed_ok (uint_at 4 bs at) z e in
    let u = uint_ok 4 bs at s.0 s.1 in
    (u.0, ap (to_z w32) u.1 ∙ s.2)

natural_ok : (at : ℕ) (z : ℤ) (n : ℕ) → natural at z ≡ Ok n → z ≡ pos n
natural_ok at (pos m) n e = cc
natural_ok at (negsuc m) n e = let z : ◌≡◌ {A = ℕ} 0 1 = cc in absurd (omega arith)

sign_ok : (m k n : ℕ) (b : Bool) → cond b (pos m) (negsuc k) ≡ pos n → (b ≡ true) × (m ≡ n)
sign_ok m k n true e = (refl, cc)
sign_ok m k n false e = let z : ◌≡◌ {A = ℕ} 0 1 = cc in absurd (omega arith)

-- a count that was read
pub count_ok : (bs : List ℕ) (at n : ℕ) → count_at bs at ≡ Ok n → (at + 4 ≤ length bs) × (word 4 bs at ≡ n) × (n < 2 ^ 31)
count_ok bs at n e =
    let t = then_ok (i32_at bs at) (natural at) n e in
    let i = i32_ok bs at t.0 t.1 in
    let s = sign_ok (word 4 bs at) _ n (ltb (word 4 bs at) (2 ^ 31)) (i.1 ∙ natural_ok at t.0 n t.2) in
    let below = ltb-true (word 4 bs at) (2 ^ 31) s.0 in
    (i.0, s.1, omega arith)
