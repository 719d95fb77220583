-- The place of a fault lies within the bytes.
use Rattle.std.specs.Prelude.{◌≡◌, ℕ, ◌+◌, ◌≤◌, Bool, true, false, cond, List, length, take, drop, ℤ, pos, negsuc, Some, None, Ok, Err, Result, ◌==◌, nat_le, nat_lt, slice_index, refl}
use Rattle.std.proofs.Common.{sym, ap, subst, ◌∙◌, arith}
use Rattle.std.specs.Int.{w64}
use Rattle.std.proofs.lemmas.List.{length-append}
use Rattle.std.proofs.lemmas.Bool.{cond_both, leb-true, ltb-true}
use Rattle.fault.specs.declared.Fault.{Fault}
use Rattle.fault.specs.declared.Rule.TheVariants.{Truncated, Trailing, Overrun, NotText, Mask, Octets, Family}
use Rattle.fault.specs.Faults.{fault}
use Rattle.wire.specs.Cursor.{before, sized}
use Rattle.wire.specs.Items.{nullable}
use Rattle.wire.specs.Words.{Value, then, ended, word, signed, u8_at, i32_at, u64_at, i64_at, count_at, value_of, value_at}
use Rattle.wire.proofs.Taking.{then_ok, uint_ok, count_ok}
use Rattle.double.specs.declared.point.Point.{Point}
use Rattle.geometry.specs.Recv.{point_at, point_recv, box_recv}
use Rattle.hstore.specs.Recv.{placed, text_at, key_in, key_at, value_in, entry_value_at, read_entry, hstore_recv}
use Rattle.hstore.proofs.Forms.{entry_ok}
use Rattle.inet.specs.declared.address.IpAddr.{IpAddr}
use Rattle.inet.specs.declared.address.IpAddr.TheVariants.{V4, V6}
use Rattle.inet.specs.Recv.{mask_of, masked, inet_recv}
use Rattle.path.specs.Recv.{Opened, opened_with, path_recv, read_point, at_points}
use Rattle.scalar.specs.Words.{int4_recv, int8_recv}
use Rattle.text.specs.Recv.{text_end, text_recv}
use Rattle.text.proofs.Ends.{end_within}
use Rattle.validator.specs.Places.{Lies, then_lies, uint_lies, i32_lies, count_lies, Placed, to_end_lies, sized_ok, value_fits}
use Rattle.validator.specs.Verdicts.{Outcome, Within, to_end}
use Rattle.varbit.specs.Layout.{begun}
use Rattle.varbit.specs.Recv.{counted, varbit_recv}
use Rattle.bottoms.specs.Verdicts.{accepted, pass, int4_verdict, int8_verdict, text_verdict, point_verdict, box_verdict, varbit_verdict, inet_verdict, path_verdict, hstore_verdict}

-- a format that is opened, and then read on
opened_within : {X : Type 0} (bs : List ℕ) (r : Result X Fault) (on : X → Outcome) → Lies (length bs) r → ((x : X) → r ≡ Ok x → Lies (length bs) (on x)) → Within bs (then r on)
opened_within bs r on h g = lies (then r on) (then_lies (length bs) r on h g)
  where
    lies : (o : Outcome) → Lies (length bs) o → Within bs o
    lies (Ok u) w = tt
    lies (Err f) w = w

-- a format that is read whole
accepted_within : {X : Type 0} (bs : List ℕ) (r : Result X Fault) → Lies (length bs) r → Within bs (accepted r)
accepted_within bs r h = opened_within bs r (λ _. Ok tt) h (λ x e. tt)

-- what stands behind a value begins within the bytes
rest_lies : {X : Type 0} (bs : List ℕ) (n : ℕ) (x : X) → Lies (length bs) (ended bs n x)
rest_lies bs n x = cond_both (nat_lt n (length bs)) (Err (fault Trailing n)) (Ok x) (Lies (length bs)) (λ t. omega (arith, ltb-true n (length bs) t)) (λ _. tt)

-- a test, and a fault where it fails
test_lies : {X : Type 0} (n : ℕ) (b : Bool) (r : Result X Fault) (f : Fault) → (b ≡ true → Lies n r) → f.place ≤ n → Lies n (cond b r (Err f))
test_lies n true r f h k = h refl
test_lies n false r f h k = k

-- words
i64_lies : (bs : List ℕ) (r : Result ℕ Fault) → Lies (length bs) r → Lies (length bs) (signed w64 r)
i64_lies bs (Ok n) h = tt
i64_lies bs (Err f) h = h

pub int4_within : (bs : List ℕ) → Within bs (int4_verdict bs)
int4_within bs = accepted_within bs (int4_recv bs) (then_lies (length bs) (i32_at bs 0) (ended bs 4) (i32_lies bs 0 (omega arith)) (λ z e. rest_lies bs 4 z))

pub int8_within : (bs : List ℕ) → Within bs (int8_verdict bs)
int8_within bs = accepted_within bs (int8_recv bs) (then_lies (length bs) (i64_at bs 0) (ended bs 8) (i64_lies bs (u64_at bs 0) (uint_lies 8 bs 0 (omega arith))) (λ z e. rest_lies bs 8 z))

-- texts: the bytes themselves, or a fault within them
text_both : (bs : List ℕ) (P : Result (List ℕ) Fault → Type 0) → P (Ok bs) → ((k : ℕ) → k ≤ length bs → P (Err (fault NotText k))) → P (text_recv bs)
text_both bs P good bad = cond_both (text_end bs == length bs) (Ok bs) (Err (fault NotText (text_end bs))) P (λ _. good) (λ _. bad (text_end bs) (end_within bs))

pub text_within : (bs : List ℕ) → Within bs (text_verdict bs)
text_within bs = accepted_within bs (text_recv bs) (text_both bs (Lies (length bs)) tt (λ k h. h))

-- points
point_lies : (bs : List ℕ) (at : ℕ) → at ≤ length bs → Lies (length bs) (point_at bs at)
point_lies bs at h =
    then_lies (length bs) (u64_at bs at) _ (uint_lies 8 bs at h) (λ x e.
    then_lies (length bs) (u64_at bs (at + 8)) _ (uint_lies 8 bs (at + 8) (uint_ok 8 bs at x e).0) (λ y d. tt))

point_there : (bs : List ℕ) (at : ℕ) (p : Point) → point_at bs at ≡ Ok p → at + 16 ≤ length bs
point_there bs at p e =
    let x = then_ok (u64_at bs at) _ p e in
    let y = then_ok (u64_at bs (at + 8)) _ p x.2 in
    let there = uint_ok 8 bs (at + 8) y.0 y.1 in
    omega arith

pub point_within : (bs : List ℕ) → Within bs (point_verdict bs)
point_within bs = accepted_within bs (point_recv bs) (then_lies (length bs) (point_at bs 0) (ended bs 16) (point_lies bs 0 (omega arith)) (λ p e. rest_lies bs 16 p))

pub box_within : (bs : List ℕ) → Within bs (box_verdict bs)
box_within bs =
    accepted_within bs (box_recv bs) (then_lies (length bs) (point_at bs 0) _ (point_lies bs 0 (omega arith)) (λ a e.
    let there = point_there bs 0 a e in
    then_lies (length bs) (point_at bs 16) _ (point_lies bs 16 (omega arith)) (λ b d. rest_lies bs 32 _)))

pub varbit_within : (bs : List ℕ) → Within bs (varbit_verdict bs)
varbit_within bs =
    accepted_within bs (varbit_recv bs) (then_lies (length bs) (count_at bs 0) (counted bs) (count_lies bs 0 (omega arith)) (λ n e.
    test_lies (length bs) (nat_le (4 + begun n) (length bs)) _ (fault Overrun 0)
    (λ t. test_lies (length bs) (nat_le (length bs) (4 + begun n)) (Ok (n, drop 4 bs)) (fault Trailing (4 + begun n)) (λ _. tt) (leb-true (4 + begun n) (length bs) t))
    (omega arith)))

-- addresses
masked_lies : (n : ℕ) (a : IpAddr) (r : Result ℕ Fault) → Lies n r → Lies n (masked a r)
masked_lies n a (Ok m) h = tt
masked_lies n a (Err f) h = h

mask_lies : (widest count : ℕ) (bs : List ℕ) → 4 ≤ length bs → Lies (length bs) (mask_of widest count bs)
mask_lies widest count bs h =
    test_lies (length bs) (nat_le (slice_index bs 1) widest) _ (fault Mask 1)
    (λ _. test_lies (length bs) (slice_index bs 3 == count) _ (fault Octets 3)
    (λ _. test_lies (length bs) (nat_le (4 + count) (length bs)) _ (fault Truncated 4)
    (λ t. test_lies (length bs) (nat_le (length bs) (4 + count)) (Ok (slice_index bs 1)) (fault Trailing (4 + count)) (λ _. tt) (leb-true (4 + count) (length bs) t))
    h)
    (omega arith))
    (omega arith)

family_lies : (widest count : ℕ) (bs : List ℕ) (a : IpAddr) → 4 ≤ length bs → Lies (length bs) (masked a (mask_of widest count bs))
family_lies widest count bs a h = masked_lies (length bs) a (mask_of widest count bs) (mask_lies widest count bs h)

pub inet_within : (bs : List ℕ) → Within bs (inet_verdict bs)
inet_within bs =
    accepted_within bs (inet_recv bs) (test_lies (length bs) (nat_le 4 (length bs)) _ (fault Truncated (length bs))
    (λ t. let four = leb-true 4 (length bs) t in
    cond_both (slice_index bs 0 == 2) (masked (V4 (word 4 bs 4)) (mask_of 32 4 bs)) _ (Lies (length bs))
    (λ _. family_lies 32 4 bs (V4 (word 4 bs 4)) four)
    (λ _. test_lies (length bs) (slice_index bs 0 == 3) (masked (V6 (word 8 bs 4) (word 8 bs 12)) (mask_of 128 16 bs)) (fault Family 0)
    (λ _. family_lies 128 16 bs (V6 (word 8 bs 4) (word 8 bs 12)) four)
    (omega arith)))
    (omega arith))

-- paths
sized_lies : (n : ℕ) (r : Result Point Fault) → Lies n r → Lies n (sized (λ _. 16) r)
sized_lies n (Ok p) h = tt
sized_lies n (Err f) h = h

points_placed : Placed read_point pass
points_placed = record {
  fails = λ bs at h. sized_lies (length bs) (point_at bs at) (point_lies bs at h);
  fits = λ bs at n p e. let s = sized_ok (λ _. 16) (point_at bs at) p n e in omega (arith, point_there bs at p s.0, s.1);
  visits = λ bs at n p e. tt;
}

opened_in : (bs : List ℕ) (o : Opened) → path_recv bs ≡ Ok o → (o.bytes ≡ bs) × (5 ≤ length bs)
opened_in bs o e =
    let b = then_ok (u8_at bs 0) _ o e in
    let c = then_ok (count_at bs 1) _ o b.2 in
    let is : opened_with bs b.0 c.0 ≡ o = let q = c.2 in cc in
    (sym (ap (λ a. a.bytes) is), (count_ok bs 1 c.0 c.1).0)

pub path_within : (bs : List ℕ) → Within bs (path_verdict bs)
path_within bs =
    opened_within bs (path_recv bs) (λ o. to_end read_point pass (at_points o))
    (then_lies (length bs) (u8_at bs 0) _ (uint_lies 1 bs 0 (omega arith)) (λ byte e.
    then_lies (length bs) (count_at bs 1) _ (count_lies bs 1 (uint_ok 1 bs 0 byte e).0) (λ n d. tt)))
    (λ o e. let i = opened_in bs o e in
    subst (λ l. Lies (length bs) (to_end read_point pass (before l 5 o.count))) (sym i.0) (to_end_lies read_point pass points_placed bs 5 o.count i.1))

-- hstore values
value_of_lies : (bs : List ℕ) (at : ℕ) (r : Result ℤ Fault) → at ≤ length bs → Lies (length bs) r → Lies (length bs) (value_of bs at r)
value_of_lies bs at (Ok (pos m)) h l = test_lies (length bs) (nat_le (at + 4 + m) (length bs)) (Ok (Some (take m (drop (at + 4) bs)))) (fault Overrun at) (λ _. tt) h
value_of_lies bs at (Ok (negsuc m)) h l = tt
value_of_lies bs at (Err f) h l = l

value_lies : (bs : List ℕ) (at : ℕ) → at ≤ length bs → Lies (length bs) (value_at bs at)
value_lies bs at h = value_of_lies bs at (i32_at bs at) h (i32_lies bs at h)

-- a text that begins at a place
text_lies : (n start : ℕ) (bs : List ℕ) → start + length bs ≤ n → Lies n (text_at start bs)
text_lies n start bs h = text_both bs (λ r. Lies n (placed start r)) tt (λ k p. omega arith)

text_is : (start : ℕ) (bs t : List ℕ) → text_at start bs ≡ Ok t → bs ≡ t
text_is start bs t = text_both bs (λ r. placed start r ≡ Ok t → bs ≡ t) (λ e. cc) (λ k p e. let z : ◌≡◌ {A = ℕ} 0 1 = cc in absurd (omega arith))

key_is : (at : ℕ) (v : Value) (key : List ℕ) → key_in at v ≡ Ok key → v ≡ Some key
key_is at None key e = let z : ◌≡◌ {A = ℕ} 0 1 = cc in absurd (omega arith)
key_is at (Some p) key e = ap Some (text_is (at + 4) p key e)

value_is : (at : ℕ) (v w : Value) → value_in at v ≡ Ok w → v ≡ w
value_is at None w e = cc
value_is at (Some p) w e =
    let t = then_ok (text_at (at + 4) p) (λ u. Ok (Some u)) w e in
    let same = text_is (at + 4) p t.0 t.1 in
    let last = t.2 in
    cc

key_in_lies : (bs : List ℕ) (at : ℕ) (v : Value) → at + length (nullable v) ≤ length bs → Lies (length bs) (key_in at v)
key_in_lies bs at None h = omega arith
key_in_lies bs at (Some p) h = text_lies (length bs) (at + 4) p (omega arith)

value_in_lies : (bs : List ℕ) (at : ℕ) (v : Value) → at + length (nullable v) ≤ length bs → Lies (length bs) (value_in at v)
value_in_lies bs at None h = tt
value_in_lies bs at (Some p) h = then_lies (length bs) (text_at (at + 4) p) _ (text_lies (length bs) (at + 4) p (omega arith)) (λ t e. tt)

-- a key or a value that was read is there
key_there : (bs : List ℕ) (at : ℕ) (key : List ℕ) → key_at bs at ≡ Ok key → at + 4 + length key ≤ length bs
key_there bs at key e =
    let t = then_ok (value_at bs at) (key_in at) key e in
    let fits = value_fits bs at (Some key) (t.1 ∙ ap Ok (key_is at t.0 key t.2)) in
    omega arith

value_there : (bs : List ℕ) (at : ℕ) (v : Value) → entry_value_at bs at ≡ Ok v → at + length (nullable v) ≤ length bs
value_there bs at v e =
    let t = then_ok (value_at bs at) (value_in at) v e in
    value_fits bs at v (t.1 ∙ ap Ok (value_is at t.0 v t.2))

entries_placed : Placed read_entry pass
entries_placed = record {
  fails = λ bs at h.
      then_lies (length bs) (key_at bs at) _ (then_lies (length bs) (value_at bs at) (key_in at) (value_lies bs at h) (λ v e. key_in_lies bs at v (value_fits bs at v e))) (λ key k.
      let next = at + 4 + length key in
      then_lies (length bs) (entry_value_at bs next) _ (then_lies (length bs) (value_at bs next) (value_in next) (value_lies bs next (key_there bs at key k)) (λ v e. value_in_lies bs next v (value_fits bs next v e))) (λ v e. tt));
  fits = λ bs at n x e.
      let p = entry_ok bs at n x e in
      omega (arith, p.size, value_there bs (at + 4 + length x.0) x.1 p.value, length-append (nullable (Some x.0)) (nullable x.1));
  visits = λ bs at n x e. tt;
}

pub hstore_within : (bs : List ℕ) → Within bs (hstore_verdict bs)
hstore_within bs =
    opened_within bs (hstore_recv bs) (λ s. to_end read_entry pass s)
    (then_lies (length bs) (count_at bs 0) _ (count_lies bs 0 (omega arith)) (λ n e. tt))
    (λ s e. let c = then_ok (count_at bs 0) (λ n. Ok (before bs 4 n)) s e in
    let is : before bs 4 c.0 ≡ s = let q = c.2 in cc in
    subst (λ x. Lies (length bs) (to_end read_entry pass x)) is (to_end_lies read_entry pass entries_placed bs 4 c.0 (count_ok bs 0 c.0 c.1).0))
