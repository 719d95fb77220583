-- Digits that are printed, and read back.
use Rattle.std.proofs.Common.{◌≡◌, ℕ, ◌+◌, ◌-◌, ◌*◌, ◌/◌, ◌%◌, ◌^◌, ◌<◌, ◌≤◌, ltb, leb, List, [], ◌∷◌, ◌++◌, length, get_or, take, Some, decimal, sym, refl, ap, ◌∙◌, arith}
use Rattle.std.proofs.lemmas.Nat.{div-add-mod', div_below, mod_below}
use Rattle.std.proofs.lemmas.Fmt.{decimal_digit, decimal_step}
use Rattle.std.proofs.lemmas.List.{append_assoc, flat_map_more, take_more}
use Rattle.std.proofs.lemmas.Bool.{cond-true, cond-false, cond_both, le-leb, lt-leb, ltb-true, ltb-false, and_from, and_right}
use Rattle.fault.specs.declared.Fault.{Fault}
use Rattle.fault.specs.Faults.{number}
use Rattle.syntax.specs.Parsed.{nibble, byte_of, in_front, unhex, ReadsBack}
use Rattle.syntax.specs.Printed.{digit, hex_byte, hex, fault_text}

-- one byte more
pub hex_more : (out bs : List ℕ) (i high low : ℕ) → i < length bs → high ≡ digit (get_or bs i 0 / 16) → low ≡ digit (get_or bs i 0 % 16) → ((out ++ hex (take i bs)) ++ (high ∷ [])) ++ (low ∷ []) ≡ out ++ hex (take (i + 1) bs)
hex_more out bs i high low h p q =
    append_assoc (out ++ hex (take i bs)) (high ∷ []) (low ∷ [])
    ∙ ap (λ d. (out ++ hex (take i bs)) ++ (d ∷ low ∷ [])) p
    ∙ ap (λ d. (out ++ hex (take i bs)) ++ (digit (get_or bs i 0 / 16) ∷ d ∷ [])) q
    ∙ flat_map_more hex_byte out (take i bs) (get_or bs i 0)
    ∙ ap (λ l. out ++ hex l) (sym (take_more bs i 0 h))

-- the last digit behind the others, and the only one
pub decimal_last : (out : List ℕ) (n d : ℕ) → 10 ≤ n → n < 2 ^ 64 → d ≡ 48 + n % 10 → (out ++ decimal (n / 10)) ++ (d ∷ []) ≡ out ++ decimal n
decimal_last out n d h fits e =
    append_assoc out (decimal (n / 10)) (d ∷ [])
    ∙ ap (λ c. out ++ (decimal (n / 10) ++ (c ∷ []))) e
    ∙ ap (λ ds. out ++ ds) (sym (decimal_step n h fits))

pub decimal_only : (out : List ℕ) (n d : ℕ) → n < 10 → d ≡ 48 + n % 10 → out ++ (d ∷ []) ≡ out ++ decimal n
decimal_only out n d h e =
    let is : d ≡ 48 + n = omega arith in
    ap (λ c. out ++ (c ∷ [])) is ∙ ap (λ ds. out ++ ds) (sym (decimal_digit n h))

-- a fault, part by part
pub fault_parts : (out : List ℕ) (f : Fault) (rule place level : ℕ) → rule ≡ number f.rule → place ≡ f.place → level ≡ f.level → ((((out ++ decimal rule) ++ (64 ∷ [])) ++ decimal place) ++ (47 ∷ [])) ++ decimal level ≡ out ++ fault_text f
fault_parts out f rule place level p q r = simp (append_assoc, p, q, r)

nibble_number : (c : ℕ) → 48 ≤ c → c ≤ 57 → nibble c ≡ Some (c - 48)
nibble_number c p q = cond-true _ _ _ (and_from _ _ (le-leb _ _ p) (le-leb _ _ q))

nibble_letter : (c : ℕ) → 97 ≤ c → c ≤ 102 → nibble c ≡ Some (c - 87)
nibble_letter c p q =
    cond-false _ _ _ (and_right (leb 48 c) (leb c 57) (lt-leb _ _ (omega arith)))
    ∙ cond-true _ _ _ (and_from _ _ (le-leb _ _ p) (le-leb _ _ q))

nibble_digit : (d : ℕ) → d < 16 → nibble (digit d) ≡ Some d
nibble_digit d h =
    cond_both (ltb d 10) (48 + d) (87 + d) (λ c. nibble c ≡ Some d)
    (λ e. let k = ltb-true d 10 e in nibble_number (48 + d) (omega arith) (omega arith) ∙ ap Some (omega arith))
    (λ e. let k = ltb-false d 10 e in nibble_letter (87 + d) (omega arith) (omega arith) ∙ ap Some (omega arith))

pub reads_back : (bs : List ℕ) → ReadsBack bs
reads_back [] small = refl
reads_back (b ∷ bs) small =
    let high = nibble_digit (b / 16) (div_below b 16 16 (omega arith) (omega (arith, small.0))) in
    let low = nibble_digit (b % 16) (mod_below b 16 (omega arith)) in
    ap (λ o. in_front (byte_of o (nibble (digit (b % 16)))) (unhex (hex bs))) high
    ∙ ap (λ o. in_front (byte_of (Some (b / 16)) o) (unhex (hex bs))) low
    ∙ ap (λ o. in_front (Some (b / 16 * 16 + b % 16)) o) (reads_back bs small.1)
    ∙ ap (λ n. Some (n ∷ bs)) (div-add-mod' b 16)
