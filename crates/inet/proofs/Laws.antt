-- The laws of reading and writing.
use Rattle.std.proofs.Common.{◌≡◌, ℕ, ◌+◌, ◌≤◌, Bool, true, false, cond, eqb, leb, ◌⊎◌, List, [], ◌∷◌, ◌++◌, length, get_or, take, drop, Ok, Err, Result, sym, refl, ap, ◌∙◌, subst, inl, inr, ⊎_elim, arith}
use Rattle.std.proofs.lemmas.List.{take-append-drop, take_all, length-drop, drop-drop}
use Rattle.std.proofs.lemmas.Bool.{eqb-true, le-leb}
use Rattle.fault.specs.declared.Fault.{Fault}
use Rattle.fault.specs.declared.Rule.TheVariants.{Truncated, Family}
use Rattle.wire.specs.Bytes.{Octets}
use Rattle.fault.specs.Faults.{fault}
use Rattle.wire.specs.Words.{be, word}
use Rattle.wire.proofs.Reading.{word_lt}
use Rattle.wire.proofs.Wording.{number_be, be_same, be_word}
use Rattle.inet.specs.declared.address.Inet.{Inet}
use Rattle.inet.specs.declared.address.IpAddr.{IpAddr}
use Rattle.inet.specs.declared.address.IpAddr.TheVariants.{V4, V6}
use Rattle.inet.specs.Laws.{ReadsBack, Distinct, LaidOut}
use Rattle.inet.specs.Layout.{Whole, widest, octets, inet_bytes, inet_layout}
use Rattle.inet.specs.Recv.{inet, mask_of, masked}
use Rattle.wire.proofs.Taking.{passed}
use Rattle.inet.proofs.Steps.{right}

pub reads_back : (a : IpAddr) (mask : ℕ) → Whole a → ReadsBack a mask
reads_back (V4 a) mask whole h ignored =
    let t = le-leb mask 32 h in
    let n = number_be 4 a whole in
    rw (t, n)
reads_back (V6 high low) mask whole h ignored =
    let t = le-leb mask 128 h in
    let m = number_be 8 high whole.0 in
    let n = number_be 8 low whole.1 in
    rw (t, m, n)

pub distinct : (a : IpAddr) (mask : ℕ) → Whole a → Distinct a mask
distinct (V4 a) mask whole (V4 b) m other e =
    let os : be 4 b ≡ be 4 a = ap (drop 4) e in
    (ap V4 (be_same 4 b a other whole os), ap (λ bs. get_or bs 1 0) e)
distinct (V6 high low) mask whole (V6 h l) m other e =
    let first : be 8 h ≡ be 8 high = ap (λ bs. take 8 (drop 4 bs)) e in
    let second : be 8 l ≡ be 8 low = ap (λ bs. drop 12 bs) e in
    let p = be_same 8 h high other.0 whole.0 first in
    let q = be_same 8 l low other.1 whole.1 second in
    (cc, ap (λ bs. get_or bs 1 0) e)
distinct (V4 a) mask whole (V6 h l) m other e = let z : ◌≡◌ {A = ℕ} 3 2 = ap (λ bs. get_or bs 0 0) e in absurd (omega arith)
distinct (V6 high low) mask whole (V4 b) m other e = let z : ◌≡◌ {A = ℕ} 2 3 = ap (λ bs. get_or bs 0 0) e in absurd (omega arith)

four : (bs : List ℕ) → 4 ≤ length bs → bs ≡ get_or bs 0 0 ∷ get_or bs 1 0 ∷ get_or bs 2 0 ∷ get_or bs 3 0 ∷ drop 4 bs
four [] h = absurd (omega arith)
four (a ∷ []) h = absurd (omega arith)
four (a ∷ b ∷ []) h = absurd (omega arith)
four (a ∷ b ∷ c ∷ []) h = absurd (omega arith)
four (a ∷ b ∷ c ∷ d ∷ bs) h = refl

-- a mask and an address were answered
told : (a : IpAddr) (r : Result ℕ Fault) (i : Inet) → Ok i ≡ masked a r → (mask : ℕ) × (Ok mask ≡ r) × (i ≡ inet a mask)
told a (Ok mask) i e = (mask, refl, cc)
told a (Err f) i e = let z : ◌≡◌ {A = ℕ} 0 1 = cc in absurd (omega arith)

-- what stands behind the head is the octets of the address
abbrev Behind : IpAddr → List ℕ → Type 0
Behind a bs = (octets a ≡ drop 4 bs) × Whole a

laid : (a : IpAddr) (bs : List ℕ) (i : Inet) → get_or bs 0 0 ≡ get_or (inet_layout a 0) 0 0 → (length bs ≡ 4 + length (octets a) → Behind a bs) → Ok i ≡ masked a (mask_of (widest a) (length (octets a)) bs)
    → (bs ≡ inet_bytes (get_or bs 2 0) i.addr i.netmask) × (i.netmask ≤ widest i.addr) × Whole i.addr
laid a bs i family behind e =
    let t = told a (mask_of (widest a) (length (octets a)) bs) i e in
    let r = right (widest a) (length (octets a)) bs t.0 t.1 in
    let b = behind r.long in
    let whole : bs ≡ inet_bytes (get_or bs 2 0) a t.0 =
    four bs (omega (arith, r.long))
    ∙ ap (λ f. f ∷ get_or bs 1 0 ∷ get_or bs 2 0 ∷ get_or bs 3 0 ∷ drop 4 bs) family
    ∙ ap (λ m. get_or (inet_layout a 0) 0 0 ∷ m ∷ get_or bs 2 0 ∷ get_or bs 3 0 ∷ drop 4 bs) (sym r.is)
    ∙ ap (λ n. get_or (inet_layout a 0) 0 0 ∷ t.0 ∷ get_or bs 2 0 ∷ n ∷ drop 4 bs) r.counted
    ∙ ap (λ os. get_or (inet_layout a 0) 0 0 ∷ t.0 ∷ get_or bs 2 0 ∷ length (octets a) ∷ os) (sym b.0) in
    subst (λ j. (bs ≡ inet_bytes (get_or bs 2 0) j.addr j.netmask) × (j.netmask ≤ widest j.addr) × Whole j.addr) (sym t.2) (whole, r.narrow, b.1)

behind_4 : (bs : List ℕ) → Octets bs → length bs ≡ 8 → Behind (V4 (word 4 bs 4)) bs
behind_4 bs small long =
    (be_word 4 bs 4 small (omega arith) ∙ take_all 4 (drop 4 bs) (simp length-drop (omega arith)), word_lt 4 bs 4 small (omega arith))

behind_6 : (bs : List ℕ) → Octets bs → length bs ≡ 20 → Behind (V6 (word 8 bs 4) (word 8 bs 12)) bs
behind_6 bs small long =
    let first = be_word 8 bs 4 small (omega arith) in
    let second : be 8 (word 8 bs 12) ≡ drop 8 (drop 4 bs) = be_word 8 bs 12 small (omega arith) ∙ take_all 8 (drop 12 bs) (simp length-drop (omega arith)) ∙ sym (drop-drop 8 4 bs) in
    (ap (λ os. os ++ be 8 (word 8 bs 12)) first ∙ ap (λ os. take 8 (drop 4 bs) ++ os) second ∙ take-append-drop 8 (drop 4 bs), (word_lt 8 bs 4 small (omega arith), word_lt 8 bs 12 small (omega arith)))

-- a choice by a test
either : {X : Type 0} (b : Bool) (x y z : X) → z ≡ cond b x y → ((b ≡ true) × (z ≡ x)) ⊎ ((b ≡ false) × (z ≡ y))
either true x y z e = inl (refl, e)
either false x y z e = inr (refl, e)

pub laid_out : (bs : List ℕ) → Octets bs → LaidOut bs
laid_out bs small i e =
    let a4 = V4 (word 4 bs 4) in
    let a6 = V6 (word 8 bs 4) (word 8 bs 12) in
    let p = passed (leb 4 (length bs)) _ (fault Truncated (length bs)) i (sym e) in
    ⊎_elim
    (λ h. laid a4 bs i (eqb-true _ _ h.0) (λ l. behind_4 bs small l) h.1)
    (λ h. let q = passed (eqb (get_or bs 0 0) 3) _ (fault Family 0) i h.1 in laid a6 bs i (eqb-true _ _ q.0) (λ l. behind_6 bs small l) q.1)
    (either (eqb (get_or bs 0 0) 2) (masked a4 (mask_of 32 4 bs)) (cond (eqb (get_or bs 0 0) 3) (masked a6 (mask_of 128 16 bs)) (Err (fault Family 0))) (Ok i) p.1)
