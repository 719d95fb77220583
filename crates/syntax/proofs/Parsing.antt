-- Words that are read step by step.
use Rattle.std.proofs.Common.{◌≡◌, ℕ, zero, suc, ◌+◌, ◌-◌, ◌*◌, ◌%◌, ◌<◌, ◌≤◌, false, ◌&&◌, eqb, leb, List, [], ◌∷◌, ◌++◌, length, get_or, take, drop, Some, None, Option, sym, refl, ap, ◌∙◌, ⊎_elim, arith}
use Rattle.std.proofs.lemmas.List.{append_assoc, at_drop_more, at_drop_all}
use Rattle.std.proofs.lemmas.Bool.{false≢true, cond-true, cond-false, cond_both, eq-eqb, ne_eqb, cases_Bool, leb-false, lt-leb}
use Rattle.std.proofs.lemmas.Slice.{between_to_end}
use Rattle.std.specs.List.{between}
use Rattle.std.specs.Option.{option_map}
use Rattle.syntax.specs.Parsed.{nibble, byte_of, in_front, unhex, bytes_in, with_digit, number_after, at_most, number_in, widened, split_at}

-- the first separator stands at i
pub split_found : (sep : ℕ) (bs : List ℕ) (i : ℕ) → i < length bs → ((k : ℕ) → k < i → get_or bs k 0 ≡ sep → ⊥) → get_or bs i 0 ≡ sep → split_at sep bs ≡ Some (take i bs, drop (suc i) bs)
split_found sep [] i h before here = absurd (omega arith)
split_found sep (c ∷ cs) zero h before here = cond-true _ _ _ (eq-eqb c sep here)
split_found sep (c ∷ cs) (suc i) h before here =
    cond-false _ _ _ (ne_eqb c sep (before 0 (omega arith)))
    ∙ ap (widened c) (split_found sep cs i (omega arith) (λ k l. before (suc k) (omega arith)) here)

pub split_none : (sep : ℕ) (bs : List ℕ) → ((k : ℕ) → k < length bs → get_or bs k 0 ≡ sep → ⊥) → split_at sep bs ≡ None
split_none sep [] none = refl
split_none sep (c ∷ cs) none =
    cond-false _ _ _ (ne_eqb c sep (none 0 (omega arith)))
    ∙ ap (widened c) (split_none sep cs (λ k l. none (suc k) (omega arith)))

-- once a number is above a limit, or none, more digits leave it so
one_more : (limit n c : ℕ) → limit < n → at_most limit (with_digit (Some n) c) ≡ None
one_more limit n c h =
    cond_both (leb 48 c && leb c 57) (Some (n * 10 + (c - 48))) None (λ o. at_most limit o ≡ None)
    (λ _. cond-false _ _ _ (lt-leb (n * 10 + (c - 48)) limit (omega arith)))
    (λ _. refl)

was_above : (limit n : ℕ) → at_most limit (Some n) ≡ None → limit < n
was_above limit n e =
    ⊎_elim
    (λ t. let is : at_most limit (Some n) ≡ Some n = cond-true _ _ _ t in let z : ◌≡◌ {A = ℕ} 0 1 = cc in absurd (omega arith))
    (λ f. leb-false n limit f)
    (cases_Bool (leb n limit))

stays_above : (limit : ℕ) (o : Option ℕ) (cs : List ℕ) → at_most limit o ≡ None → at_most limit (number_after o cs) ≡ None
stays_above limit o [] e = e
stays_above limit (Some n) (c ∷ cs) e = stays_above limit (with_digit (Some n) c) cs (one_more limit n c (was_above limit n e))
stays_above limit None (c ∷ cs) e = stays_above limit None cs e

above_less : (limit most : ℕ) (o : Option ℕ) → most ≤ limit → at_most limit o ≡ None → at_most most o ≡ None
above_less limit most (Some n) h e = let k = was_above limit n e in cond-false _ _ _ (lt-leb n most (omega arith))
above_less limit most None h e = refl

within : (limit m : ℕ) (o : Option ℕ) → Some m ≡ at_most limit o → o ≡ Some m
within limit m (Some n) e =
    ⊎_elim
    (λ t. let is : at_most limit (Some n) ≡ Some n = cond-true _ _ _ t in cc)
    (λ f. let is : at_most limit (Some n) ≡ None = cond-false _ _ _ f in let z : ◌≡◌ {A = ℕ} 0 1 = cc in absurd (omega arith))
    (cases_Bool (leb n limit))
within limit m None e = sym e

some_digits : (most : ℕ) (cs : List ℕ) → false ≡ eqb (length cs) 0 → number_in most cs ≡ at_most most (number_after (Some 0) cs)
some_digits most [] e = absurd (false≢true e)
some_digits most (c ∷ cs) e = refl

-- n is what the first i digits make
module _ (cs : List ℕ) (n i : ℕ) (inv : number_after (Some n) (drop i cs) ≡ number_after (Some 0) cs) where
  pub number_more : (limit m : ℕ) → i < length cs → Some m ≡ at_most limit (with_digit (Some n) (get_or cs i 0)) → number_after (Some m) (drop (i + 1) cs) ≡ number_after (Some 0) cs
  number_more limit m h e =
      sym (at_drop_more (number_after (Some n)) cs i 0 h ∙ ap (λ o. number_after o (drop (i + 1) cs)) (within limit m _ e)) ∙ inv

  pub number_broken : (limit most : ℕ) → most ≤ limit → i < length cs → None ≡ at_most limit (with_digit (Some n) (get_or cs i 0)) → number_in most cs ≡ None
  number_broken limit most less h e =
      some_digits most cs (sym (ne_eqb _ _ (λ z. omega arith)))
      ∙ ap (at_most most) (sym inv ∙ at_drop_more (number_after (Some n)) cs i 0 h)
      ∙ above_less limit most _ less (stays_above limit _ (drop (i + 1) cs) (sym e))

  pub number_end : (most : ℕ) → length cs ≤ i → false ≡ eqb (length cs) 0 → number_in most cs ≡ at_most most (Some n)
  number_end most h some = some_digits most cs some ∙ ap (at_most most) (sym inv ∙ at_drop_all (number_after (Some n)) cs i h)

-- digits come in pairs
pub unhex_odd : (ds : List ℕ) → (length ds % 2 ≡ 0 → ⊥) → unhex ds ≡ None
unhex_odd [] odd = absurd (odd refl)
unhex_odd (a ∷ []) odd = refl
unhex_odd (a ∷ b ∷ ds) odd = ap (in_front _) (unhex_odd ds (λ e. odd (omega arith))) ∙ none_behind (byte_of (nibble a) (nibble b))
  where
    none_behind : (o : Option ℕ) → in_front o None ≡ None
    none_behind (Some b) = refl
    none_behind None = refl

-- a byte that is read goes behind the others
pub unhex_more : (bs ds : List ℕ) (x : ℕ) → 1 < length ds → Some x ≡ byte_of (nibble (get_or ds 0 0)) (nibble (get_or ds 1 0))
    → option_map (λ cs. bs ++ cs) (unhex ds) ≡ option_map (λ cs. (bs ++ (x ∷ [])) ++ cs) (unhex (drop 2 ds))
unhex_more bs [] x h e = absurd (omega arith)
unhex_more bs (a ∷ []) x h e = absurd (omega arith)
unhex_more bs (a ∷ b ∷ ds) x h e = ap (λ o. option_map (λ cs. bs ++ cs) (in_front o (unhex ds))) (sym e) ∙ behind (unhex ds)
  where
    behind : (o : Option (List ℕ)) → option_map (λ cs. bs ++ cs) (in_front (Some x) o) ≡ option_map (λ cs. (bs ++ (x ∷ [])) ++ cs) o
    behind (Some cs) = ap Some (sym (append_assoc bs (x ∷ []) cs))
    behind None = refl

-- the digits of a byte string
pub bytes_marked : (word : List ℕ) → 0 < length word → get_or word 0 0 ≡ 120 → unhex (between 1 (length word) word) ≡ bytes_in word
bytes_marked [] h e = absurd (omega arith)
bytes_marked (c ∷ cs) h e = ap unhex (between_to_end (c ∷ cs) 1 (length (c ∷ cs)) (omega arith)) ∙ sym (cond-true _ _ _ (eq-eqb c 120 e))
