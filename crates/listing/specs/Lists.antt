-- Lists in a line: [a,b,c], or [] for none.
use Rattle.std.specs.Prelude.{ℕ, ◌-◌, cond, ◌&&◌, List, [], ◌∷◌, ◌++◌, length, take, drop, Some, None, Option, ◌==◌, nat_le, slice_index}
use Rattle.std.specs.List.{fold, slice_split}
use Rattle.std.specs.Option.{option_and_then, option_map}

-- the words between separators: one more than there are separators
abbrev pub fields : ℕ → List ℕ → List (List ℕ)
fields sep cs = slice_split (λ c. c == sep) cs

-- what stands between brackets
abbrev pub bracketed : List ℕ → Option (List ℕ)
bracketed cs = cond (nat_le 2 (length cs) && (slice_index cs 0 == 91 && slice_index cs (length cs - 1) == 93)) (Some (take (length cs - 2) (drop 1 cs))) None

-- one more word, taken in by what holds those before it
abbrev pub word_onto : {H : Type 0} → (H → List ℕ → Option H) → Option H → List ℕ → Option H
word_onto with o w = option_and_then (λ h. with h w) o

-- word after word; none from the first that is not taken in
abbrev pub words_onto : {H : Type 0} → (H → List ℕ → Option H) → H → List (List ℕ) → Option H
words_onto with h ws = fold (word_onto with) (Some h) ws

-- nothing between the brackets is no word at all
abbrev pub inner_onto : {H : Type 0} → (H → List ℕ → Option H) → H → List ℕ → Option H
inner_onto with h cs = cond (length cs == 0) (Some h) (words_onto with h (fields 44 cs))

-- the words of a list, one after another
abbrev pub list_onto : {H : Type 0} → (H → List ℕ → Option H) → H → List ℕ → Option H
list_onto with h cs = option_and_then (inner_onto with h) (bracketed cs)

abbrev pub in_front : {X : Type 0} → Option X → Option (List X) → Option (List X)
in_front (Some x) (Some xs) = Some (x ∷ xs)
in_front (Some x) None = None
in_front None (Some xs) = None
in_front None None = None

-- every word is one of the kind that is read
abbrev pub all_in : {X : Type 0} → (List ℕ → Option X) → List (List ℕ) → Option (List X)
all_in read [] = Some []
all_in read (w ∷ ws) = in_front (read w) (all_in read ws)

abbrev pub inner_in : {X : Type 0} → (List ℕ → Option X) → List ℕ → Option (List X)
inner_in read cs = cond (length cs == 0) (Some []) (all_in read (fields 44 cs))

abbrev pub listed : {X : Type 0} → (List ℕ → Option X) → Option (List ℕ) → Option (List X)
listed read (Some cs) = inner_in read cs
listed read None = None

abbrev pub list_in : {X : Type 0} → (List ℕ → Option X) → List ℕ → Option (List X)
list_in read cs = listed read (bracketed cs)

-- a word that is read goes behind the others
abbrev pub with_read : {X : Type 0} → (List ℕ → Option X) → List X → List ℕ → Option (List X)
with_read read xs w = option_map (λ x. xs ++ (x ∷ [])) (read w)
