-- The place of a fault lies within the bytes.
use Rattle.std.specs.Prelude.{◌≡◌, ℕ, zero, suc, ◌+◌, ◌-◌, ◌*◌, ◌^◌, ◌≤◌, Bool, true, false, cond, List, length, take, drop, ℤ, pos, negsuc, Some, None, Ok, Err, Result, nat_le, nat_lt, refl}
use Rattle.std.proofs.Common.{sym, ap, subst, ◌∙◌, arith}
use Rattle.std.specs.Int.{Width, w32}
use Rattle.std.proofs.lemmas.List.{length-take-le, length-drop}
use Rattle.std.proofs.lemmas.Bool.{cond_both, cond-false, leb-true, ne_eqb}
use Rattle.fault.specs.declared.Fault.{Fault}
use Rattle.fault.specs.declared.Rule.TheVariants.{Truncated, Overrun, Trailing, Product}
use Rattle.fault.specs.Faults.{fault}
use Rattle.wire.specs.Cursor.{State, Reader, Answer, failed, taken, step, before, sized, read_nullable}
use Rattle.wire.specs.Items.{nullable}
use Rattle.wire.specs.Words.{Value, then, ended, word, uint_at, signed, i32_at, u8_at, u32_at, natural, count_at, value_of, value_at}
use Rattle.wire.proofs.Taking.{then_ok, passed, uint_ok, i32_ok, count_ok}
use Rattle.array.specs.Recv.{Opened, opened_with, product_at, product_from, array_recv, at_values}
use Rattle.range.specs.declared.bound.RangeBound.{RangeBound}
use Rattle.range.specs.declared.bound.RangeBound.TheVariants.{Inclusive, Exclusive, Unbounded}
use Rattle.range.specs.Layout.{bound}
use Rattle.range.specs.Recv.{Content, has, kind, bound_at, tagged, range_recv}
use Rattle.validator.specs.Verdicts.{Outcome, Verdict, Within, from_below, handed, stepped, steps, to_end, array_verdict, side_handed, sides_handed, range_verdict}

-- a fault's place is at most n
abbrev pub Lies : {X : Type 0} → ℕ → Result X Fault → Type 0
Lies n (Ok x) = Unit {0}
Lies n (Err f) = f.place ≤ n

pub then_lies : {X Y : Type 0} (n : ℕ) (r : Result X Fault) (on : X → Result Y Fault) → Lies n r → ((x : X) → r ≡ Ok x → Lies n (on x)) → Lies n (then r on)
then_lies n (Ok x) on h g = g x refl
then_lies n (Err f) on h g = h

pub uint_lies : (w : ℕ) (bs : List ℕ) (at : ℕ) → at ≤ length bs → Lies (length bs) (uint_at w bs at)
uint_lies w bs at h = cond_both (nat_le (at + w) (length bs)) (Ok (word w bs at)) (Err (fault Truncated at)) (Lies (length bs)) (λ e. tt) (λ e. h)

signed_lies : (w : Width) (n : ℕ) (r : Result ℕ Fault) → Lies n r → Lies n (signed w r)
signed_lies w n (Ok m) h = tt
signed_lies w n (Err f) h = h

pub i32_lies : (bs : List ℕ) (at : ℕ) → at ≤ length bs → Lies (length bs) (i32_at bs at)
i32_lies bs at h = signed_lies w32 (length bs) (uint_at 4 bs at) (uint_lies 4 bs at h)

natural_lies : (n at : ℕ) (z : ℤ) → at ≤ n → Lies n (natural at z)
natural_lies n at (pos m) h = tt
natural_lies n at (negsuc m) h = h

pub count_lies : (bs : List ℕ) (at : ℕ) → at ≤ length bs → Lies (length bs) (count_at bs at)
count_lies bs at h = then_lies (length bs) (i32_at bs at) (natural at) (i32_lies bs at h) (λ z e. natural_lies (length bs) at z h)

product_lies : (n : ℕ) (bs : List ℕ) (at p : ℕ) → at ≤ length bs → Lies (length bs) (product_from n bs at p)
product_lies zero bs at p h = tt
product_lies (suc n) bs at p h =
    then_lies (length bs) (count_at bs at) _ (count_lies bs at h) (λ len e.
    let c = count_ok bs at len e in
    then_lies (length bs) (i32_at bs (at + 4)) _ (i32_lies bs (at + 4) c.0) (λ z d.
    let i = i32_ok bs (at + 4) z d in
    then_lies (length bs) (product_at at (p * len)) _ (cond_both (nat_lt (p * len) (2 ^ 31)) (Ok (p * len)) (Err (fault Product at)) (Lies (length bs)) (λ _. tt) (λ _. h)) (λ q _. product_lies n bs (at + 8) q (omega arith))))

-- dimensions that were read are there
dimensions_there : (n : ℕ) (bs : List ℕ) (at p q : ℕ) → at ≤ length bs → product_from n bs at p ≡ Ok q → at + 8 * n ≤ length bs
dimensions_there zero bs at p q h e = omega arith
dimensions_there (suc n) bs at p q h e =
    let a = then_ok (count_at bs at) _ q e in
    let b = then_ok (i32_at bs (at + 4)) _ q a.2 in
    let c = then_ok (product_at at (p * a.0)) _ q b.2 in
    let i = i32_ok bs (at + 4) b.0 b.1 in
    let more = dimensions_there n bs (at + 8) c.0 q (omega arith) c.2 in
    omega arith

-- a reader whose faults lie within the bytes, whose parts are there, and whose parts' outcomes lie within them
pub record Placed {X : Type 0} (read : Reader X) (visit : ℕ → X → Outcome) : Type 0 where
  pub fails : (bs : List ℕ) (at : ℕ) → at ≤ length bs → Lies (length bs) (read bs at)
  pub fits : (bs : List ℕ) (at n : ℕ) (x : X) → read bs at ≡ Ok (x, n) → at + n ≤ length bs
  pub visits : (bs : List ℕ) (at n : ℕ) (x : X) → read bs at ≡ Ok (x, n) → Lies (length bs) (visit at x)

-- with parts to come, a step takes one
pub step_taken : {X : Type 0} (read : Reader X) (bs : List ℕ) (at n : ℕ) → step read (before bs at (suc n)) ≡ taken (read bs at) (before bs at (suc n))
step_taken read bs at n = cond-false _ _ _ (ne_eqb (suc n) 0 (λ z. omega arith))

module _ {X : Type 0} (read : Reader X) (visit : ℕ → X → Outcome) (laws : Placed read visit) where
  -- what follows a step, by its answer and the state behind it
  abbrev follows : ℕ → ℕ → Answer X × State → Outcome
  follows m at q = stepped visit at q.0 (steps read visit m q.1)

  end_lies : (m : ℕ) (bs : List ℕ) (at : ℕ) (b : Bool) → at ≤ length bs → Lies (length bs) (follows m at (cond b (failed (fault Trailing at) (before bs at 0)) (Ok None, before bs at 0)))
  end_lies m bs at true h = h
  end_lies m bs at false h = tt

  part_lies : (m : ℕ) (bs : List ℕ) (at n : ℕ) → at ≤ length bs → ((k : ℕ) → k ≤ length bs → Lies (length bs) (steps read visit m (before bs k n))) → (r : Result (X × ℕ) Fault) → read bs at ≡ r → Lies (length bs) (follows m at (taken r (before bs at (suc n))))
  part_lies m bs at n h ih (Ok p) e =
      let less : n ≡ suc n - 1 = omega arith in
      let next = subst (λ k. Lies (length bs) (steps read visit m (before bs (at + p.1) k))) less (ih (at + p.1) (laws.fits bs at p.1 p.0 e)) in
      then_lies (length bs) (visit at p.0) _ (laws.visits bs at p.1 p.0 e) (λ u d. next)
  part_lies m bs at n h ih (Err f) e = subst (Lies (length bs)) e (laws.fails bs at h)

  steps_lie : (m : ℕ) (bs : List ℕ) (at n : ℕ) → at ≤ length bs → Lies (length bs) (steps read visit m (before bs at n))
  steps_lie zero bs at n h = tt
  steps_lie (suc m) bs at zero h = end_lies m bs at (nat_lt at (length bs)) h
  steps_lie (suc m) bs at (suc n) h =
      subst (λ q. Lies (length bs) (follows m at q)) (sym (step_taken read bs at n)) (part_lies m bs at n h (λ k p. steps_lie m bs k n p) (read bs at) refl)

  pub to_end_lies : (bs : List ℕ) (at n : ℕ) → at ≤ length bs → Lies (length bs) (to_end read visit (before bs at n))
  to_end_lies bs at n h = steps_lie (suc n) bs at n h

-- values behind their length words
value_of_lies : (bs : List ℕ) (at : ℕ) (r : Result ℤ Fault) → at ≤ length bs → Lies (length bs) r → Lies (length bs) (value_of bs at r)
value_of_lies bs at (Ok (pos m)) h l = cond_both (nat_le (at + 4 + m) (length bs)) (Ok (Some (take m (drop (at + 4) bs)))) (Err (fault Overrun at)) (Lies (length bs)) (λ e. tt) (λ e. h)
value_of_lies bs at (Ok (negsuc m)) h l = tt
value_of_lies bs at (Err f) h l = l

value_lies : (bs : List ℕ) (at : ℕ) → at ≤ length bs → Lies (length bs) (value_at bs at)
value_lies bs at h = value_of_lies bs at (i32_at bs at) h (i32_lies bs at h)

value_fits_by : (bs : List ℕ) (at : ℕ) (v : Value) (r : Result ℤ Fault) → i32_at bs at ≡ r → value_of bs at r ≡ Ok v → at + length (nullable v) ≤ length bs
value_fits_by bs at v (Ok (pos m)) is e =
    let p = passed (nat_le (at + 4 + m) (length bs)) (Ok (Some (take m (drop (at + 4) bs)))) (fault Overrun at) v (sym e) in
    let fits = leb-true (at + 4 + m) (length bs) p.0 in
    let same : Some (take m (drop (at + 4) bs)) ≡ v = let q = p.1 in cc in
    let long : length (take m (drop (at + 4) bs)) ≡ m = length-take-le m (drop (at + 4) bs) (simp length-drop (omega arith)) in
    subst (λ u. at + length (nullable u) ≤ length bs) same (omega arith)
value_fits_by bs at v (Ok (negsuc m)) is e =
    let i = i32_ok bs at (negsuc m) is in
    let same : ◌≡◌ {A = Value} None v = cc in
    subst (λ u. at + length (nullable u) ≤ length bs) same i.0
value_fits_by bs at v (Err f) is e = let z : ◌≡◌ {A = ℕ} 0 1 = cc in absurd (omega arith)

-- a value that was read is there
pub value_fits : (bs : List ℕ) (at : ℕ) (v : Value) → value_at bs at ≡ Ok v → at + length (nullable v) ≤ length bs
value_fits bs at v e = value_fits_by bs at v (i32_at bs at) refl e

sized_lies : {X : Type 0} (n : ℕ) (size : X → ℕ) (r : Result X Fault) → Lies n r → Lies n (sized size r)
sized_lies n size (Ok x) h = tt
sized_lies n size (Err f) h = h

pub sized_ok : {X : Type 0} (size : X → ℕ) (r : Result X Fault) (x : X) (n : ℕ) → sized size r ≡ Ok (x, n) → (r ≡ Ok x) × (n ≡ size x)
sized_ok {X} size (Ok y) x n e =
    let pair : ◌≡◌ {A = X × ℕ} (y, size y) (x, n) = cc in
    (ap (λ q. Ok q.0) pair, sym (ap (λ q. q.1) pair) ∙ ap size (ap (λ q. q.0) pair))
sized_ok size (Err f) x n e = let z : ◌≡◌ {A = ℕ} 0 1 = cc in absurd (omega arith)

-- ranges
lies_within : (bs : List ℕ) (o : Outcome) → Lies (length bs) o → Within bs o
lies_within bs (Ok u) h = tt
lies_within bs (Err f) h = h

module _ (tag inclusive unbounded : ℕ) (bs : List ℕ) (at : ℕ) (h : at ≤ length bs) where
  bound_lies : Lies (length bs) (bound_at tag inclusive unbounded bs at)
  bound_lies =
      cond_both (has unbounded tag) (Ok (Unbounded, at)) (then (value_at bs at) (λ v. Ok (kind (has inclusive tag) v, at + length (nullable v)))) (Lies (length bs)) (λ _. tt)
      (λ _. then_lies (length bs) (value_at bs at) _ (value_lies bs at h) (λ v e. tt))

  kind_length : (b : Bool) (v : Value) → length (bound (kind b v)) ≡ length (nullable v)
  kind_length true v = refl
  kind_length false v = refl

  bound_there : (b : Bool) (p : RangeBound Value × ℕ) → cond b (Ok (Unbounded, at)) (then (value_at bs at) (λ v. Ok (kind (has inclusive tag) v, at + length (nullable v)))) ≡ Ok p → (p.1 ≡ at + length (bound p.0)) × (p.1 ≤ length bs)
  bound_there true p e =
      let pair : ◌≡◌ {A = RangeBound Value × ℕ} (Unbounded, at) p = cc in
      subst (λ q. (q.1 ≡ at + length (bound q.0)) × (q.1 ≤ length bs)) pair (omega arith, h)
  bound_there false p e =
      let t = then_ok (value_at bs at) (λ v. Ok (kind (has inclusive tag) v, at + length (nullable v))) p e in
      let fits = value_fits bs at t.0 t.1 in
      let pair : ◌≡◌ {A = RangeBound Value × ℕ} (kind (has inclusive tag) t.0, at + length (nullable t.0)) p = let q = t.2 in cc in
      subst (λ q. (q.1 ≡ at + length (bound q.0)) × (q.1 ≤ length bs)) pair (ap (λ n. at + n) (sym (kind_length (has inclusive tag) t.0)), fits)

ended_lies : {X : Type 0} (bs : List ℕ) (at : ℕ) (x : X) → at ≤ length bs → Lies (length bs) (ended bs at x)
ended_lies bs at x h = cond_both (nat_lt at (length bs)) (Err (fault Trailing at)) (Ok x) (Lies (length bs)) (λ _. h) (λ _. tt)

ended_ok : {X : Type 0} (b : Bool) (f : Fault) (x y : X) → cond b (Err f) (Ok x) ≡ Ok y → x ≡ y
ended_ok true f x y e = let z : ◌≡◌ {A = ℕ} 0 1 = cc in absurd (omega arith)
ended_ok false f x y e = cc

-- both bounds, by the tag
abbrev both : List ℕ → ℕ → Result Content Fault
both bs tag = then (bound_at tag 2 8 bs 1) (λ l. then (bound_at tag 4 16 bs l.1) (λ u. ended bs u.1 (Some (l.0, u.0))))

range_lies : (bs : List ℕ) → Lies (length bs) (range_recv bs)
range_lies bs =
    then_lies (length bs) (u8_at bs 0) (tagged bs) (uint_lies 1 bs 0 (omega arith)) (λ tag e.
    let one : 1 ≤ length bs = (uint_ok 1 bs 0 tag e).0 in
    cond_both (has 1 tag) (ended bs 1 None) (both bs tag) (Lies (length bs)) (λ _. ended_lies bs 1 None one) (λ _.
    then_lies (length bs) (bound_at tag 2 8 bs 1) _ (bound_lies tag 2 8 bs 1 one) (λ l d.
    let first = bound_there tag 2 8 bs 1 one (has 8 tag) l d in
    then_lies (length bs) (bound_at tag 4 16 bs l.1) _ (bound_lies tag 4 16 bs l.1 first.1) (λ u f.
    ended_lies bs u.1 _ (bound_there tag 4 16 bs l.1 first.1 (has 16 tag) u f).1))))

sides_by : (bs : List ℕ) (tag : ℕ) (l u : RangeBound Value) (b : Bool) → 1 ≤ length bs → cond b (ended bs 1 None) (both bs tag) ≡ Ok (Some (l, u)) → 1 + length (bound l) + length (bound u) ≤ length bs
sides_by bs tag l u true one e = let q = ended_ok (nat_lt 1 (length bs)) (fault Trailing 1) None (Some (l, u)) e in let z : ◌≡◌ {A = ℕ} 0 1 = cc in absurd (omega arith)
sides_by bs tag l u false one e =
    let a = then_ok (bound_at tag 2 8 bs 1) _ (Some (l, u)) e in
    let b = then_ok (bound_at tag 4 16 bs a.0.1) _ (Some (l, u)) a.2 in
    let first = bound_there tag 2 8 bs 1 one (has 8 tag) a.0 a.1 in
    let second = bound_there tag 4 16 bs a.0.1 first.1 (has 16 tag) b.0 b.1 in
    let same = ended_ok (nat_lt b.0.1 (length bs)) (fault Trailing b.0.1) (Some (a.0.0, b.0.0)) (Some (l, u)) b.2 in
    let pair : ◌≡◌ {A = RangeBound Value × RangeBound Value} (a.0.0, b.0.0) (l, u) = cc in
    let lower : a.0.0 ≡ l = ap (λ q. q.0) pair in
    let upper : b.0.0 ≡ u = ap (λ q. q.1) pair in
    omega (arith, ap (λ x. length (bound x)) lower, ap (λ x. length (bound x)) upper)

-- the bounds of a range that was read are there
pub sides_there : (bs : List ℕ) (l u : RangeBound Value) → range_recv bs ≡ Ok (Some (l, u)) → 1 + length (bound l) + length (bound u) ≤ length bs
sides_there bs l u e =
    let t = then_ok (u8_at bs 0) (tagged bs) (Some (l, u)) e in
    sides_by bs t.0 l u (has 1 t.0) (uint_ok 1 bs 0 t.0 t.1).0 t.2

-- a bound that was handed down ends where its bytes do
pub side_end : (below : Verdict) (at : ℕ) (b : RangeBound Value) (end : ℕ) → side_handed below at b ≡ Ok end → end ≡ at + length (bound b)
side_end below at (Inclusive v) end e = let t = then_ok (handed below at v) _ end e in let q = t.2 in cc
side_end below at (Exclusive v) end e = let t = then_ok (handed below at v) _ end e in let q = t.2 in cc
side_end below at Unbounded end e = let same : at ≡ end = cc in omega arith

module _ (below : Verdict) (lies : (bs : List ℕ) → Within bs (below bs)) where
  below_lies : (n start : ℕ) (p : List ℕ) (o : Outcome) → Within p o → start + length p ≤ n → Lies n (from_below start o)
  below_lies n start p (Ok u) w h = tt
  below_lies n start p (Err f) w h = omega arith

  handed_lies : (bs : List ℕ) (at : ℕ) (v : Value) → at + length (nullable v) ≤ length bs → Lies (length bs) (handed below at v)
  handed_lies bs at None h = tt
  handed_lies bs at (Some p) h = below_lies (length bs) (at + 4) p (below p) (lies p) (omega arith)

  nullable_placed : Placed read_nullable (handed below)
  nullable_placed = record {
    fails = λ bs at h. sized_lies (length bs) (λ v. length (nullable v)) (value_at bs at) (value_lies bs at h);
    fits = λ bs at n v e. let s = sized_ok (λ u. length (nullable u)) (value_at bs at) v n e in let f = value_fits bs at v s.0 in omega (arith, s.1);
    visits = λ bs at n v e. let s = sized_ok (λ u. length (nullable u)) (value_at bs at) v n e in handed_lies bs at v (value_fits bs at v s.0);
  }

  head_lies : (bs : List ℕ) → Lies (length bs) (array_recv bs)
  head_lies bs =
      then_lies (length bs) (count_at bs 0) _ (count_lies bs 0 (omega arith)) (λ n c.
      then_lies (length bs) (u32_at bs 4) _ (uint_lies 4 bs 4 (count_ok bs 0 n c).0) (λ flag u.
      then_lies (length bs) (u32_at bs 8) _ (uint_lies 4 bs 8 (uint_ok 4 bs 4 flag u).0) (λ oid t.
      then_lies (length bs) (product_from n bs 12 1) _ (product_lies n bs 12 1 (uint_ok 4 bs 8 oid t).0) (λ p d. tt))))

  -- an opened array stands over the same bytes, and its elements begin within them
  opened_in : (bs : List ℕ) (o : Opened) → array_recv bs ≡ Ok o → (o.bytes ≡ bs) × (o.start ≤ length bs)
  opened_in bs o e =
      let c = then_ok (count_at bs 0) _ o e in
      let u = then_ok (u32_at bs 4) _ o c.2 in
      let t = then_ok (u32_at bs 8) _ o u.2 in
      let d = then_ok (product_from c.0 bs 12 1) _ o t.2 in
      let is : opened_with bs c.0 u.0 t.0 d.0 ≡ o = let q = d.2 in cc in
      let there = dimensions_there c.0 bs 12 1 d.0 (uint_ok 4 bs 8 t.0 t.1).0 d.1 in
      (sym (ap (λ a. a.bytes) is), subst (λ n. n ≤ length bs) (ap (λ a. a.start) is) there)

  pub array_within : (bs : List ℕ) → Within bs (array_verdict below bs)
  array_within bs =
      lies_within bs (array_verdict below bs) (then_lies (length bs) (array_recv bs) (λ o. to_end read_nullable (handed below) (at_values o)) (head_lies bs) (λ o e.
      let i = opened_in bs o e in
      subst (λ l. Lies (length bs) (to_end read_nullable (handed below) (before l o.start o.elements))) (sym i.0) (to_end_lies read_nullable (handed below) nullable_placed bs o.start o.elements i.1)))

  side_lies : (bs : List ℕ) (at : ℕ) (b : RangeBound Value) → at + length (bound b) ≤ length bs → Lies (length bs) (side_handed below at b)
  side_lies bs at (Inclusive v) h = then_lies (length bs) (handed below at v) _ (handed_lies bs at v h) (λ u e. tt)
  side_lies bs at (Exclusive v) h = then_lies (length bs) (handed below at v) _ (handed_lies bs at v h) (λ u e. tt)
  side_lies bs at Unbounded h = tt

  sides_lie : (bs : List ℕ) (c : Content) → range_recv bs ≡ Ok c → Lies (length bs) (sides_handed below c)
  sides_lie bs None e = tt
  sides_lie bs (Some p) e =
      let there = sides_there bs p.0 p.1 e in
      then_lies (length bs) (side_handed below 1 p.0) _ (side_lies bs 1 p.0 (omega arith)) (λ at d.
      let end = side_end below 1 p.0 at d in
      then_lies (length bs) (side_handed below at p.1) _ (side_lies bs at p.1 (omega arith)) (λ u f. tt))

  pub range_within : (bs : List ℕ) → Within bs (range_verdict below bs)
  range_within bs = lies_within bs (range_verdict below bs) (then_lies (length bs) (range_recv bs) (sides_handed below) (range_lies bs) (λ c e. sides_lie bs c e))
