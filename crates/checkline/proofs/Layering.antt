-- Layers taken from the innermost on.
use Rattle.std.proofs.Common.{◌≡◌, ℕ, ◌+◌, ◌-◌, ◌<◌, ◌≤◌, ◌↔◌, List, [], ◌∷◌, ◌++◌, map, length, get_or, take, sym, refl, ap, ◌∙◌, subst, arith}
use Rattle.std.proofs.lemmas.List.{take_all, take_more}
use Rattle.pile.proofs.Agree.{reads_exactly}
use Rattle.pile.specs.Piles.{By, layer_verdict, pile_verdict, pile_reading}
use Rattle.validator.specs.Verdicts.{Outcome, Verdict}
use Rattle.checkline.specs.declared.layers.Layer.{Layer}
use Rattle.checkline.specs.Layers.{named}

-- over a layer, the others are those that stand before it
over : (ls : List Layer) (l : Layer) (below : Verdict) → pile_verdict (map named ls) (layer_verdict (named l) below) ≡ pile_verdict (map named (ls ++ (l ∷ []))) below
over [] l below = refl
over (m ∷ ls) l below = ap (layer_verdict (named m)) (over ls l below)

to_last : (ls : List Layer) (d : Layer) → 0 < length ls → take (length ls - 1) ls ++ (get_or ls (length ls - 1) d ∷ []) ≡ ls
to_last ls d h =
    sym (take_more ls (length ls - 1) d (omega arith))
    ∙ take_all (length ls - 1 + 1) ls (omega arith)

-- the innermost layer goes to the validator below
pub innermost_below : (ls : List Layer) (d : Layer) (below : Verdict) (bs : List ℕ) {o : Outcome} → 0 < length ls
    → o ≡ pile_verdict (map named (take (length ls - 1) ls)) (layer_verdict (named (get_or ls (length ls - 1) d)) below) bs → o ≡ pile_verdict (map named ls) below bs
innermost_below ls d below bs h e =
    e
    ∙ ap (λ v. v bs) (over (take (length ls - 1) ls) (get_or ls (length ls - 1) d) below)
    ∙ ap (λ l. pile_verdict (map named l) below bs) (to_last ls d h)

pub no_layers : (ls : List Layer) (below : Verdict) (bs : List ℕ) {o : Outcome} → length ls ≤ 0 → o ≡ below bs → o ≡ pile_verdict (map named ls) below bs
no_layers [] below bs h e = e
no_layers (l ∷ ls) below bs h e = absurd (omega arith)

-- what a pile says is what reading to the end at every level meets
pub reads_all : (ls : List Layer) (bottom : Verdict) (bs : List ℕ) {o : Outcome} → o ≡ pile_verdict (map named ls) bottom bs → (p : Outcome) → (o ≡ p) ↔ pile_reading (map named ls) (By bottom) bs p
reads_all ls bottom bs e p =
    subst (λ o. (o ≡ p) ↔ pile_reading (map named ls) (By bottom) bs p) (sym e)
    (reads_exactly (pile_verdict (map named ls) bottom) bs (map named ls) bottom (λ q. refl) p)
