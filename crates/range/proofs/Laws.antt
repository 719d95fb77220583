-- The laws of reading.
use Rattle.std.proofs.Common.{◌≡◌, ℕ, ◌+◌, Bool, true, false, cond, List, [], ◌∷◌, ◌++◌, length, drop, Some, None, Ok, sym, refl, ap, ◌∙◌, subst, one-add, arith}
use Rattle.std.proofs.lemmas.List.{append-nil, length-append, drop_all}
use Rattle.std.proofs.lemmas.Bool.{cond-true, cond-false, le-ltb}
use Rattle.wire.specs.Bytes.{Octets}
use Rattle.wire.specs.Words.{Value, then, ended, u8_at}
use Rattle.wire.proofs.Reading.{uint_fits}
use Rattle.wire.proofs.Wording.{word_1}
use Rattle.range.specs.declared.bound.RangeBound.{RangeBound}
use Rattle.range.specs.Laws.{Bounded, Form, ReadsBack, OnlyForms}
use Rattle.range.specs.Recv.{Content, has, bound_at, tagged, range_recv}
use Rattle.wire.proofs.Taking.{then_ok, ended_ok}
use Rattle.range.proofs.Bounds.{bound_reads, bound_formed, Formed}

-- the two bounds of an even tag, and the end behind them
pub even_reads : (bs : List ℕ) (tag : ℕ) (l u : RangeBound Value × ℕ) → Ok tag ≡ u8_at bs 0 → has 1 tag ≡ false → Ok l ≡ bound_at tag 2 8 bs 1 → Ok u ≡ bound_at tag 4 16 bs l.1 → ended bs u.1 (Some (l.0, u.0)) ≡ range_recv bs
even_reads bs tag l u is even lower upper =
    ap (λ r. then r (λ y. ended bs y.1 (Some (l.0, y.0)))) upper
    ∙ ap (λ r. then r (λ x. then (bound_at tag 4 16 bs x.1) (λ y. ended bs y.1 (Some (x.0, y.0))))) lower
    ∙ sym (cond-false _ _ _ even)
    ∙ ap (λ r. then r (tagged bs)) is

tag_first : (tag : ℕ) (rest : List ℕ) → Ok tag ≡ u8_at (tag ∷ rest) 0
tag_first tag rest = sym (uint_fits 1 (tag ∷ rest) 0 (omega arith) ∙ ap Ok (word_1 (tag ∷ rest) 0 (omega arith)))

tag_reads : (tag : ℕ) (rest : List ℕ) → tagged (tag ∷ rest) tag ≡ range_recv (tag ∷ rest)
tag_reads tag rest = ap (λ r. then r (tagged (tag ∷ rest))) (tag_first tag rest)

pub reads_back : (bs : List ℕ) → ReadsBack bs
reads_back bs tag None small f = ap range_recv f.1 ∙ sym (tag_reads tag []) ∙ cond-true _ _ _ f.0
reads_back bs tag (Some p) small f =
    let first = f.first in
    let second = f.second in
    let all = tag ∷ (first ++ second) in
    let at = length (tag ∷ first) in
    let end = at + length second in
    let lower : bound_at tag 2 8 all 1 ≡ Ok (p.0, at) = bound_reads tag 2 8 (tag ∷ []) first second p.0 f.lower_kind f.lower_form ∙ ap (λ n. Ok (p.0, n)) (one-add (length first)) in
    let upper : bound_at tag 4 16 all at ≡ Ok (p.1, end) = ap (λ l. bound_at tag 4 16 (tag ∷ (first ++ l)) at) (sym (append-nil second)) ∙ bound_reads tag 4 16 (tag ∷ first) second [] p.1 f.upper_kind f.upper_form in
    ap range_recv f.whole
    ∙ sym (even_reads all tag (p.0, at) (p.1, end) (tag_first tag (first ++ second)) f.even (sym lower) (sym upper))
    ∙ cond-false _ _ _ (le-ltb end (length all) (omega (arith, length-append first second)))

-- where it was the end, no byte remains
ended_is : {X : Type 0} (bs : List ℕ) (at : ℕ) (x y : X) → ended bs at x ≡ Ok y → (drop at bs ≡ []) × (x ≡ y)
ended_is bs at x y e = let c = ended_ok bs at x y e in (drop_all at bs c.0, c.1)

empty_form : (tag : ℕ) (rest : List ℕ) (c : Content) → has 1 tag ≡ true → ended (tag ∷ rest) 1 None ≡ Ok c → Form tag c (tag ∷ rest)
empty_form tag rest c odd e =
    let end = ended_is {X = Content} (tag ∷ rest) 1 None c e in
    subst (λ d. Form tag d (tag ∷ rest)) end.1 (odd, ap (λ r. tag ∷ r) end.0)

nonempty_form : (tag : ℕ) (rest : List ℕ) (c : Content) (l u : RangeBound Value × ℕ) → has 1 tag ≡ false → Formed tag 2 8 (tag ∷ rest) 1 l → Formed tag 4 16 (tag ∷ rest) l.1 u → ended (tag ∷ rest) u.1 (Some (l.0, u.0)) ≡ Ok c → Form tag c (tag ∷ rest)
nonempty_form tag rest c l u even low up e =
    let end = ended_is {X = Content} (tag ∷ rest) u.1 (Some (l.0, u.0)) c e in
    let behind : drop l.1 (tag ∷ rest) ≡ up.bytes = up.here ∙ ap (λ r. up.bytes ++ r) end.0 ∙ append-nil up.bytes in
    let form : Bounded tag l.0 u.0 (tag ∷ rest) = record {
      even = even;
      lower_kind = low.is;
      upper_kind = up.is;
      first = low.bytes;
      second = up.bytes;
      lower_form = low.form;
      upper_form = up.form;
      whole = ap (λ r. tag ∷ r) (low.here ∙ ap (λ r. low.bytes ++ r) behind);
    } in
    subst (λ d. Form tag d (tag ∷ rest)) end.1 form

tag_cases : (tag : ℕ) (rest : List ℕ) (c : Content) (odd : Bool) → let bs = tag ∷ rest in Octets bs → has 1 tag ≡ odd
    → cond odd (ended bs 1 None) (then (bound_at tag 2 8 bs 1) (λ l. then (bound_at tag 4 16 bs l.1) (λ u. ended bs u.1 (Some (l.0, u.0))))) ≡ Ok c → Form tag c bs
tag_cases tag rest c true small is e = empty_form tag rest c is e
tag_cases tag rest c false small is e =
    let bs = tag ∷ rest in
    let l = then_ok (bound_at tag 2 8 bs 1) (λ x. then (bound_at tag 4 16 bs x.1) (λ y. ended bs y.1 (Some (x.0, y.0)))) c e in
    let u = then_ok (bound_at tag 4 16 bs l.0.1) (λ y. ended bs y.1 (Some (l.0.0, y.0))) c l.2 in
    nonempty_form tag rest c l.0 u.0 is (bound_formed tag 2 8 bs 1 l.0 small l.1) (bound_formed tag 4 16 bs l.0.1 u.0 small u.1) u.2

pub only_forms : (bs : List ℕ) → Octets bs → OnlyForms bs
only_forms [] small c e = let z : ◌≡◌ {A = ℕ} 0 1 = cc in absurd (omega arith)
only_forms (tag ∷ rest) small c e = (tag, small.0, tag_cases tag rest c (has 1 tag) small refl (tag_reads tag rest ∙ e))
