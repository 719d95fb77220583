-- Words that spell a pile.
use Rattle.std.proofs.Common.{◌≡◌, ℕ, zero, suc, ◌+◌, ◌-◌, ◌<◌, ◌≤◌, List, [], ◌∷◌, ◌++◌, length, Some, None, Option, sym, refl, ap, ◌∙◌, subst, arith}
use Rattle.std.proofs.lemmas.List.{append_assoc}
use Rattle.std.specs.Option.{option_map}
use Rattle.checkline.specs.declared.bottom.Bottom.{Bottom}
use Rattle.checkline.specs.declared.layers.Layer.{Layer}
use Rattle.checkline.specs.Spelled.{Pile, bottom_in, closed, around, layer_around, onto, bare, pile_under, pile_within, most_layers, pile_in}

pub onto_none : (o : Option Pile) → onto [] o ≡ o
onto_none (Some p) = refl
onto_none None = refl

onto_more : (ls : List Layer) (l : Layer) (o : Option Pile) → onto ls (onto (l ∷ []) o) ≡ onto (ls ++ (l ∷ [])) o
onto_more ls l (Some p) = ap (λ k. Some (k, p.1)) (sym (append_assoc ls (l ∷ []) p.0))
onto_more ls l None = refl

-- one layer more
pub layer_more : (ls : List Layer) (l : Layer) (i : ℕ) (w inside : List ℕ) {more : List Layer} {all : Option Pile} → i < most_layers
    → layer_around w ≡ Some (l, inside) → more ≡ ls ++ (l ∷ []) → onto ls (pile_within (most_layers - i) w) ≡ all
    → onto more (pile_within (most_layers - (i + 1)) inside) ≡ all
layer_more ls l i w inside h e pushed is =
    let next : suc (most_layers - (i + 1)) ≡ most_layers - i = omega arith in
    ap (λ k. onto k (pile_within (most_layers - (i + 1)) inside)) pushed
    ∙ sym (onto_more ls l (pile_within (most_layers - (i + 1)) inside))
    ∙ ap (λ o. onto ls (pile_under (pile_within (most_layers - (i + 1))) w o)) (sym e)
    ∙ ap (λ n. onto ls (pile_within n w)) next
    ∙ is

-- a word without a layer
pub no_layer : (n : ℕ) (w : List ℕ) → layer_around w ≡ None → pile_within n w ≡ bare w
no_layer zero w e = refl
no_layer (suc n) w e = ap (pile_under (pile_within n) w) e

-- a pile of at most n layers
abbrev Shallow : ℕ → Option Pile → Type 0
Shallow n (Some p) = length p.0 ≤ n
Shallow n None = Unit {0}

bare_shallow : (n : ℕ) (o : Option Bottom) → Shallow n (option_map (λ b. ([], b)) o)
bare_shallow n (Some b) = omega arith
bare_shallow n None = tt

onto_shallow : (n : ℕ) (l : Layer) (o : Option Pile) → Shallow n o → Shallow (suc n) (onto (l ∷ []) o)
onto_shallow n l (Some p) h = omega arith
onto_shallow n l None h = tt

under_shallow : (n : ℕ) (w : List ℕ) (deeper : List ℕ → Option Pile) → ((v : List ℕ) → Shallow n (deeper v)) → (o : Option (Layer × List ℕ)) → Shallow (suc n) (pile_under deeper w o)
under_shallow n w deeper h (Some p) = onto_shallow n p.0 (deeper p.1) (h p.1)
under_shallow n w deeper h None = bare_shallow (suc n) (bottom_in w)

shallow : (n : ℕ) (w : List ℕ) → Shallow n (pile_within n w)
shallow zero w = bare_shallow 0 (bottom_in w)
shallow (suc n) w = under_shallow n w (pile_within n) (shallow n) (layer_around w)

pub few_layers : (w : List ℕ) (p : Pile) → pile_in w ≡ Some p → length p.0 ≤ most_layers
few_layers w p e = subst (Shallow most_layers) e (shallow most_layers w)

-- nothing stands behind the parenthesis that opens
pub not_around : (o : Option Layer) (w : List ℕ) → length w ≤ 0 → around o (closed w) ≡ None
not_around (Some l) [] h = refl
not_around (Some l) (c ∷ w) h = absurd (omega arith)
not_around None w h = refl
