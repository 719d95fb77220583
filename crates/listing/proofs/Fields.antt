-- The words between commas, taken off one by one.
use Rattle.std.proofs.Common.{◌≡◌, ℕ, suc, ◌<◌, Bool, true, false, cond, eqb, List, [], ◌∷◌, ◌++◌, length, Some, None, Option, sym, refl, ap, ◌∙◌, subst, arith}
use Rattle.std.proofs.lemmas.List.{append_assoc, append-nil}
use Rattle.std.proofs.lemmas.List.Folds.{fold_stays}
use Rattle.std.specs.Bool.{then_some}
use Rattle.std.specs.List.{fold, onto_first}
use Rattle.std.specs.Option.{option_and_then, option_map}
use Rattle.syntax.specs.Parsed.{split_at, widened}
use Rattle.listing.specs.Lists.{fields, bracketed, word_onto, words_onto, inner_onto, list_onto, in_front, all_in, inner_in, listed, list_in, with_read}

-- the first word and those behind it, or the only one
abbrev fields_by : ℕ → List ℕ → Option (List ℕ × List ℕ) → List (List ℕ)
fields_by sep cs (Some p) = p.0 ∷ fields sep p.1
fields_by sep cs None = cs ∷ []

widened_fields : (sep c : ℕ) (cs : List ℕ) (o : Option (List ℕ × List ℕ)) → onto_first c (fields_by sep cs o) ≡ fields_by sep (c ∷ cs) (widened c o)
widened_fields sep c cs (Some p) = refl
widened_fields sep c cs None = refl

fields_split : (sep : ℕ) (cs : List ℕ) → fields sep cs ≡ fields_by sep cs (split_at sep cs)
fields_split sep [] = refl
fields_split sep (c ∷ cs) =
    elim (eqb c sep) as (λ b. cond b ([] ∷ fields sep cs) (onto_first c (fields sep cs)) ≡ fields_by sep (c ∷ cs) (cond b (Some ([], cs)) (widened c (split_at sep cs)))) [
      | true ↦ refl
      | false ↦ ap (onto_first c) (fields_split sep cs) ∙ widened_fields sep c cs (split_at sep cs)
    ]

-- what stands behind a separator is shorter
abbrev Shorter : ℕ → Option (List ℕ × List ℕ) → Type 0
Shorter n (Some p) = length p.1 < n
Shorter n None = Unit {0}

widened_shorter : (n c : ℕ) (o : Option (List ℕ × List ℕ)) → Shorter n o → Shorter (suc n) (widened c o)
widened_shorter n c (Some p) h = omega arith
widened_shorter n c None h = tt

shorter : (sep : ℕ) (cs : List ℕ) → Shorter (length cs) (split_at sep cs)
shorter sep [] = tt
shorter sep (c ∷ cs) =
    elim (eqb c sep) as (λ b. Shorter (length (c ∷ cs)) (cond b (Some ([], cs)) (widened c (split_at sep cs)))) [
      | true ↦ omega arith
      | false ↦ widened_shorter (length cs) c (split_at sep cs) (shorter sep cs)
    ]

pub behind_shorter : (sep : ℕ) (cs word behind : List ℕ) → Some (word, behind) ≡ split_at sep cs → length behind < length cs
behind_shorter sep cs word behind is = subst (Shorter (length cs)) (sym is) (shorter sep cs)

-- what holds the words so far, and what is left to read
module _ {H : Type 0} (with : H → List ℕ → Option H) (h : H) (rest : List ℕ) where
  by_split : (split : Option (List ℕ × List ℕ)) → split ≡ split_at 44 rest → words_onto with h (fields 44 rest) ≡ words_onto with h (fields_by 44 rest split)
  by_split split is = ap (words_onto with h) (fields_split 44 rest ∙ ap (fields_by 44 rest) (sym is))

  by_word : (word behind : List ℕ) (o : Option H) → Some (word, behind) ≡ split_at 44 rest → o ≡ with h word → words_onto with h (fields 44 rest) ≡ fold (word_onto with) o (fields 44 behind)
  by_word word behind o split is =
      by_split (Some (word, behind)) split ∙ ap (λ p. fold (word_onto with) p (fields 44 behind)) (sym is)

  -- a word that is taken in
  pub onto_more : (word behind : List ℕ) (next : H) → Some (word, behind) ≡ split_at 44 rest → Some next ≡ with h word → words_onto with h (fields 44 rest) ≡ words_onto with next (fields 44 behind)
  onto_more word behind next split is = by_word word behind (Some next) split is

  pub onto_broken : (word behind : List ℕ) → Some (word, behind) ≡ split_at 44 rest → None ≡ with h word → words_onto with h (fields 44 rest) ≡ None
  onto_broken word behind split is =
      by_word word behind None split is ∙ fold_stays (word_onto with) None (λ w. refl) (fields 44 behind)

  pub onto_last : None ≡ split_at 44 rest → words_onto with h (fields 44 rest) ≡ with h rest
  onto_last split = by_split None split

-- what was taken in, by its meaning
pub taken : {X Y : Type 0} (f : X → Y) (b : Bool) (x : X) → option_map f (then_some b x) ≡ then_some b (f x)
taken f true x = refl
taken f false x = refl

-- words that are read one by one are all read
module _ {X : Type 0} (read : List ℕ → Option X) where
  regrouped : (xs : List X) (x : X) (o : Option (List X)) → option_map (λ ys. (xs ++ (x ∷ [])) ++ ys) o ≡ option_map (λ ys. xs ++ ys) (in_front (Some x) o)
  regrouped xs x (Some ys) = ap Some (append_assoc xs (x ∷ []) ys)
  regrouped xs x None = refl

  nothing : (xs : List X) (o : Option (List X)) → None ≡ option_map (λ ys. xs ++ ys) (in_front None o)
  nothing xs (Some ys) = refl
  nothing xs None = refl

  by_item : (xs : List X) (o : Option X) (ws : List (List ℕ)) → ((x : X) → words_onto (with_read read) (xs ++ (x ∷ [])) ws ≡ option_map (λ ys. (xs ++ (x ∷ [])) ++ ys) (all_in read ws)) → fold (word_onto (with_read read)) (option_map (λ x. xs ++ (x ∷ [])) o) ws ≡ option_map (λ ys. xs ++ ys) (in_front o (all_in read ws))
  by_item xs (Some x) ws behind = behind x ∙ regrouped xs x (all_in read ws)
  by_item xs None ws behind = fold_stays (word_onto (with_read read)) None (λ w. refl) ws ∙ nothing xs (all_in read ws)

  read_onto : (xs : List X) (ws : List (List ℕ)) → words_onto (with_read read) xs ws ≡ option_map (λ ys. xs ++ ys) (all_in read ws)
  read_onto xs [] = ap Some (sym (append-nil xs))
  read_onto xs (w ∷ ws) = by_item xs (read w) ws (λ x. read_onto (xs ++ (x ∷ [])) ws)

  none_in_front : (o : Option (List X)) → option_map (λ ys. [] ++ ys) o ≡ o
  none_in_front (Some ys) = refl
  none_in_front None = refl

  inner_read : (cs : List ℕ) → inner_onto (with_read read) [] cs ≡ inner_in read cs
  inner_read cs = ap (cond (eqb (length cs) 0) (Some [])) (read_onto [] (fields 44 cs) ∙ none_in_front (all_in read (fields 44 cs)))

  pub list_read : (cs : List ℕ) → list_onto (with_read read) [] cs ≡ list_in read cs
  list_read cs = by_inner (bracketed cs)
    where
      by_inner : (o : Option (List ℕ)) → option_and_then (inner_onto (with_read read) []) o ≡ listed read o
      by_inner (Some inner) = inner_read inner
      by_inner None = refl
