-- The product over the dimensions of an array's head, one dimension after another.
use Rattle.std.proofs.Common.{◌≡◌, ℕ, suc, ◌+◌, ◌*◌, ◌^◌, ◌<◌, ◌≤◌, ltb, List, length, ℤ, Ok, Err, Result, sym, refl, ap, ◌∙◌, arith}
use Rattle.std.proofs.lemmas.Bool.{ltb-true}
use Rattle.fault.specs.declared.Fault.{Fault}
use Rattle.fault.specs.declared.Rule.TheVariants.{Product}
use Rattle.fault.specs.Faults.{fault}
use Rattle.wire.specs.Words.{then, word, i32_at, count_at}
use Rattle.wire.proofs.Taking.{then_ok, passed, i32_ok, count_ok}
use Rattle.array.specs.Recv.{product_at, product_from}

-- one dimension: its length, its lower bound, and the test of the product
abbrev pub factor : List ℕ → ℕ → ℕ → Result ℕ Fault
factor bs at p = then (count_at bs at) (λ len. then (i32_at bs (at + 4)) (λ _. product_at at (p * len)))

-- a dimension that came through
pub record Factor (bs : List ℕ) (at p q : ℕ) : Type 0 where
  pub len : ℕ
  pub room : at + 8 ≤ length bs
  pub counted : word 4 bs at ≡ len
  pub short : len < 2 ^ 31
  pub made : p * len ≡ q
  pub below : q < 2 ^ 31

pub factor_ok : (bs : List ℕ) (at p q : ℕ) → Ok q ≡ factor bs at p → Factor bs at p q
factor_ok bs at p q e =
    let c = then_ok (count_at bs at) (λ len. then (i32_at bs (at + 4)) (λ _. product_at at (p * len))) q (sym e) in
    let i = then_ok (i32_at bs (at + 4)) (λ _. product_at at (p * c.0)) q c.2 in
    let t = passed (ltb (p * c.0) (2 ^ 31)) (Ok (p * c.0)) (fault Product at) q (sym i.2) in
    let same : p * c.0 ≡ q = let y = t.1 in cc in
    let n = count_ok bs at c.0 c.1 in
    let z = i32_ok bs (at + 4) i.0 i.1 in
    let low = ltb-true (p * c.0) (2 ^ 31) t.0 in
    record { len = c.0; room = omega arith; counted = n.1; short = n.2; made = same; below = omega arith }

steps : (c : Result ℕ Fault) (i : Result ℤ Fault) (test on : ℕ → Result ℕ Fault) → then c (λ len. then i (λ _. then (test len) on)) ≡ then (then c (λ len. then i (λ _. test len))) on
steps (Ok n) (Ok z) test on = refl
steps (Ok n) (Err f) test on = refl
steps (Err f) i test on = refl

-- a product is one dimension and the product of the others
pub product_more : (n m : ℕ) (bs : List ℕ) (at p : ℕ) {r : Result ℕ Fault} → n ≡ suc m → r ≡ factor bs at p → product_from n bs at p ≡ then r (product_from m bs (at + 8))
product_more n m bs at p counted is =
    let on = product_from m bs (at + 8) in
    ap (λ k. product_from k bs at p) counted
    ∙ steps (count_at bs at) (i32_at bs (at + 4)) (λ len. product_at at (p * len)) on
    ∙ ap (λ s. then s on) (sym is)
