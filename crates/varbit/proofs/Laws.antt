-- What was read, and what it was read from.
use Rattle.std.proofs.Common.{◌≡◌, ℕ, ◌+◌, ◌^◌, ◌<◌, leb, List, ◌++◌, length, take, drop, Ok, sym, ap, ◌∙◌, subst, arith}
use Rattle.std.proofs.lemmas.List.{length-drop, take-append-drop}
use Rattle.std.proofs.lemmas.Bool.{cond-true, leb-true, le-leb}
use Rattle.fault.specs.declared.Rule.TheVariants.{Overrun, Trailing}
use Rattle.fault.specs.Faults.{fault}
use Rattle.wire.specs.Bytes.{Octets}
use Rattle.wire.specs.Words.{be, then, count_at}
use Rattle.wire.proofs.Taking.{then_ok, passed, count_ok}
use Rattle.wire.proofs.Wording.{be_word}
use Rattle.varbit.specs.Laws.{OnlyLayouts}
use Rattle.varbit.specs.Layout.{begun, varbit_layout}
use Rattle.varbit.specs.Recv.{Bits, counted, varbit_recv}

-- all bytes are there, and no more
pub recv_is : (bs : List ℕ) (n : ℕ) → Ok n ≡ count_at bs 0 → length bs ≡ 4 + begun n → varbit_recv bs ≡ Ok (n, drop 4 bs)
recv_is bs n e long =
    ap (λ r. then r (counted bs)) (sym e)
    ∙ cond-true _ _ _ (le-leb (4 + begun n) (length bs) (omega arith))
    ∙ cond-true _ _ _ (le-leb (length bs) (4 + begun n) (omega arith))

pub only_layouts : (bs : List ℕ) → Octets bs → OnlyLayouts bs
only_layouts bs small n bytes e =
    let c = then_ok (count_at bs 0) (counted bs) (n, bytes) e in
    let k = count_ok bs 0 c.0 c.1 in
    let p = passed (leb (4 + begun c.0) (length bs)) _ (fault Overrun 0) (n, bytes) (sym c.2) in
    let q = passed (leb (length bs) (4 + begun c.0)) _ (fault Trailing (4 + begun c.0)) (n, bytes) p.1 in
    let pair : ◌≡◌ {A = Bits} (n, bytes) (c.0, drop 4 bs) = let r = q.1 in cc in
    let count : n ≡ c.0 = ap (λ b. b.0) pair in
    let rest : bytes ≡ drop 4 bs = ap (λ b. b.1) pair in
    let low = leb-true (4 + begun c.0) (length bs) p.0 in
    let high = leb-true (length bs) (4 + begun c.0) q.0 in
    let word-is : be 4 n ≡ take 4 bs = ap (be 4) (count ∙ sym k.1) ∙ be_word 4 bs 0 small k.0 in
    let whole : bs ≡ varbit_layout n bytes = sym (take-append-drop 4 bs) ∙ ap (λ l. l ++ drop 4 bs) (sym word-is) ∙ ap (λ l. be 4 n ++ l) (sym rest) in
    let long : length bytes ≡ begun c.0 = ap length rest ∙ length-drop 4 bs ∙ omega arith in
    (whole, long ∙ ap begun (sym count), subst (λ m. m < 2 ^ 31) (sym count) k.2)
