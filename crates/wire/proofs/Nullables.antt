-- Values behind their length words, there and back.
use Rattle.std.proofs.Common.{◌≡◌, ℕ, suc, ◌+◌, ◌-◌, ◌^◌, ◌<◌, ◌≤◌, Bool, true, false, cond, ltb, leb, List, ◌++◌, length, take, drop, pos, negsuc, Some, None, Ok, Err, Result, sym, refl, ap, ◌∙◌, subst, arith, lit<, lit≤, take-add, w32, to_z}
use Rattle.std.proofs.lemmas.List.{append_assoc, length-append, length-take-le, length-drop, take_at, drop_at, drop-drop}
use Rattle.std.proofs.lemmas.Int.{to_z_pos}
use Rattle.std.proofs.lemmas.Bool.{cond-true, le-leb, leb-true, le-ltb, ltb-true, ltb-false}
use Rattle.fault.specs.declared.Fault.{Fault}
use Rattle.fault.specs.declared.Rule.TheVariants.{Truncated, Overrun}
use Rattle.fault.specs.Faults.{fault}
use Rattle.wire.specs.Bytes.{Octets}
use Rattle.wire.specs.Cursor.{ReadsForms, Nullable, read_nullable, sized}
use Rattle.wire.specs.Items.{Within, nullable}
use Rattle.wire.specs.Words.{Value, be, word, signed, i32_at, value_of, value_at}
use Rattle.wire.proofs.Reading.{uint_fits, word_lt}
use Rattle.wire.proofs.Wording.{word_back, be_word}

-- a number of 32 bits from 2 ^ 31 on is negative
to_z_neg : (n : ℕ) → 2 ^ 31 ≤ n → to_z w32 n ≡ negsuc (2 ^ 32 - suc n)
to_z_neg n h = let t = le-ltb n (2 ^ 31) h in rw t

-- a signed word that stands behind others
pub i32_back : (pre rest : List ℕ) (n : ℕ) → n < 2 ^ 32 → i32_at (pre ++ (be 4 n ++ rest)) (length pre) ≡ Ok (to_z w32 n)
i32_back pre rest n h =
    let long = length-append pre (be 4 n ++ rest) in
    ap (signed w32) (uint_fits 4 (pre ++ (be 4 n ++ rest)) (length pre) (omega arith)) ∙ ap (λ m. Ok (to_z w32 m)) (word_back 4 pre rest n (length pre) refl h)

-- a value that stands behind others, in any of its forms
value_back : (pre rest e : List ℕ) (v : Value) → Nullable v e → value_at (pre ++ (e ++ rest)) (length pre) ≡ Ok v
value_back pre rest e None (n, low, high, is) =
    let word = ap (λ f. i32_at (pre ++ (f ++ rest)) (length pre)) is ∙ i32_back pre rest n high ∙ ap Ok (to_z_neg n low) in
    ap (value_of (pre ++ (e ++ rest)) (length pre)) word
value_back pre rest e (Some bs) (short, is) =
    let n = length bs in
    let all = pre ++ (e ++ rest) in
    let msg : all ≡ pre ++ (be 4 n ++ (bs ++ rest)) = ap (λ f. pre ++ (f ++ rest)) is ∙ ap (λ l. pre ++ l) (append_assoc (be 4 n) bs rest) in
    let long : length all ≡ length pre + (4 + (n + length rest)) = ap length msg ∙ length-append pre _ ∙ ap (λ m. length pre + m) (simp length-append (omega arith)) in
    let apart : all ≡ (pre ++ be 4 n) ++ (bs ++ rest) = msg ∙ sym (append_assoc pre (be 4 n) (bs ++ rest)) in
    let body : drop (length pre + 4) all ≡ bs ++ rest = ap (drop (length pre + 4)) apart ∙ drop_at (pre ++ be 4 n) (bs ++ rest) (length pre + 4) (length-append pre (be 4 n)) in
    let here : take n (drop (length pre + 4) all) ≡ bs = ap (take n) body ∙ take_at bs rest n refl in
    let word = ap (λ l. i32_at l (length pre)) msg ∙ i32_back pre (bs ++ rest) n (omega arith) ∙ ap Ok (to_z_pos w32 n short) in
    ap (value_of all (length pre)) word ∙ cond-true _ _ _ (le-leb (length pre + 4 + n) (length all) (omega arith)) ∙ ap (λ l. Ok (Some l)) here

-- the bytes of a form are as many as are told
length_form : (e : List ℕ) (v : Value) → Nullable v e → length (nullable v) ≡ length e
length_form e None (n, low, high, is) = sym (ap length is)
length_form e (Some bs) (short, is) = sym (ap length is)

-- a payload that was read
payload_form : (bs : List ℕ) (at w : ℕ) (v : Value) (b : Bool) → Octets bs → at + 4 ≤ length bs → word 4 bs at ≡ w → w < 2 ^ 31 → leb (at + 4 + w) (length bs) ≡ b
    → cond b (Ok (Some (take w (drop (at + 4) bs)))) (Err (fault Overrun at)) ≡ Ok v → (at + length (nullable v) ≤ length bs) × Nullable v (take (length (nullable v)) (drop at bs))
payload_form bs at w v false small h is low t e = let z : ◌≡◌ {A = ℕ} 0 1 = cc in absurd (omega arith)
payload_form bs at w v true small h is low t e =
    let p = take w (drop (at + 4) bs) in
    let fits = leb-true (at + 4 + w) (length bs) t in
    let long : length p ≡ w = length-take-le w (drop (at + 4) bs) (simp length-drop (omega arith)) in
    let whole : take (4 + w) (drop at bs) ≡ be 4 w ++ p =
    take-add 4 w (drop at bs)
    ∙ ap (λ l. take 4 (drop at bs) ++ take w l) (drop-drop 4 at bs)
    ∙ ap (λ l. l ++ p) (sym (be_word 4 bs at small h) ∙ ap (be 4) is) in
    let size : length (nullable (Some p)) ≡ 4 + w = omega arith in
    let forms : (at + length (nullable (Some p)) ≤ length bs) × Nullable (Some p) (take (length (nullable (Some p))) (drop at bs)) =
    (omega arith, (omega arith, ap (λ n. take n (drop at bs)) size ∙ whole ∙ ap (λ n. be 4 n ++ p) (sym long))) in
    let same : ◌≡◌ {A = Value} (Some p) v = cc in
    subst (λ u. (at + length (nullable u) ≤ length bs) × Nullable u (take (length (nullable u)) (drop at bs))) same forms

-- a value of a known length that was read
sign_form : (bs : List ℕ) (at w : ℕ) (v : Value) (b : Bool) → Octets bs → at + 4 ≤ length bs → word 4 bs at ≡ w → ltb w (2 ^ 31) ≡ b
    → value_of bs at (Ok (cond b (pos w) (negsuc (2 ^ 32 - suc w)))) ≡ Ok v → (at + length (nullable v) ≤ length bs) × Nullable v (take (length (nullable v)) (drop at bs))
sign_form bs at w v true small h is t e = payload_form bs at w v (leb (at + 4 + w) (length bs)) small h is (ltb-true w (2 ^ 31) t) refl e
sign_form bs at w v false small h is t e =
    let high : word 4 bs at < 2 ^ 32 = word_lt 4 bs at small h in
    let low = ltb-false w (2 ^ 31) t in
    let same : ◌≡◌ {A = Value} None v = cc in
    subst (λ u. (at + length (nullable u) ≤ length bs) × Nullable u (take (length (nullable u)) (drop at bs))) same
    (h, (w, low, omega arith, sym (be_word 4 bs at small h) ∙ ap (be 4) is))

value_form : (bs : List ℕ) (at : ℕ) (v : Value) (b : Bool) → Octets bs → leb (at + 4) (length bs) ≡ b → value_of bs at (signed w32 (cond b (Ok (word 4 bs at)) (Err (fault Truncated at)))) ≡ Ok v
    → (at + length (nullable v) ≤ length bs) × Nullable v (take (length (nullable v)) (drop at bs))
value_form bs at v true small t e = sign_form bs at (word 4 bs at) v (ltb (word 4 bs at) (2 ^ 31)) small (leb-true _ _ t) refl refl e
value_form bs at v false small t e = let z : ◌≡◌ {A = ℕ} 0 1 = cc in absurd (omega arith)

read_form : (bs : List ℕ) (at n : ℕ) (v : Value) (r : Result Value Fault) → value_at bs at ≡ r → Octets bs → sized (λ u. length (nullable u)) r ≡ Ok (v, n) → (at + n ≤ length bs) × Nullable v (take n (drop at bs))
read_form bs at n v (Ok u) is small e =
    let pair : ◌≡◌ {A = Value × ℕ} (u, length (nullable u)) (v, n) = cc in
    let same : u ≡ v = ap (λ q. q.0) pair in
    let size : length (nullable u) ≡ n = ap (λ q. q.1) pair in
    let f = value_form bs at u (leb (at + 4) (length bs)) small refl is in
    subst (λ x. (at + n ≤ length bs) × Nullable x (take n (drop at bs))) same (subst (λ m. (at + m ≤ length bs) × Nullable u (take m (drop at bs))) size f)
read_form bs at n v (Err f) is small e = let z : ◌≡◌ {A = ℕ} 0 1 = cc in absurd (omega arith)

pub nullable_forms : ReadsForms read_nullable Nullable
nullable_forms = record {
  reads = λ pre e rest v f. ap (sized (λ u. length (nullable u))) (value_back pre rest e v f) ∙ ap (λ n. Ok (v, n)) (length_form e v f);
  formed = λ bs at n v small e. read_form bs at n v (value_at bs at) refl small e;
}

-- as it is written, a value has one of its forms
pub nullable_written : (v : Value) → Within 2147483647 (Ok v) → Nullable v (nullable v)
nullable_written None h = (2 ^ 32 - 1, lit≤ tt, lit< tt, refl)
nullable_written (Some bs) h = (omega arith, refl)
