-- Texts behind texts.
use Rattle.std.proofs.Common.{◌≡◌, ℕ, Bool, true, false, List, [], ◌∷◌, ◌++◌, IfOk, Result, sym, refl, ap, ◌∙◌}
use Rattle.std.proofs.lemmas.List.{append_assoc, append-nil}
use Rattle.std.proofs.lemmas.Result.{IfOk-weaker}
use Rattle.answers.specs.Parts.{comma}
use Rattle.answers.specs.Plain.{commas}

-- a text behind the one that was added before it
pub behind : {X Y : Type 0} (r : Result X Y) (head out before after text all : List ℕ) → before ≡ out ++ head → head ++ text ≡ all → IfOk r (λ _. after ≡ before ++ text) → IfOk r (λ _. after ≡ out ++ all)
behind r head out before after text all e f =
    IfOk-weaker r (λ _. after ≡ before ++ text) (λ _. after ≡ out ++ all) (λ _ p. p ∙ ap (λ l. l ++ text) e ∙ append_assoc out head text ∙ ap (λ l. out ++ l) f)

-- texts of which the first stands behind a comma, unless it is the first of all
abbrev pub onward : Bool → List (List ℕ) → List ℕ
onward true ts = commas ts
onward false [] = []
onward false (t ∷ ts) = 44 ∷ commas (t ∷ ts)

pub onward_none : (first : Bool) → onward first [] ≡ []
onward_none true = refl
onward_none false = refl

headed : (t : List ℕ) (ts : List (List ℕ)) → commas (t ∷ ts) ≡ t ++ onward false ts
headed t [] = sym (append-nil t)
headed t (u ∷ ts) = refl

pub onward_more : (first : Bool) (t : List ℕ) (ts : List (List ℕ)) → onward first (t ∷ ts) ≡ (comma first ++ t) ++ onward false ts
onward_more true t ts = headed t ts
onward_more false t ts = ap (λ l. 44 ∷ l) (headed t ts)
