-- Words that no row of a table names.
use Rattle.std.proofs.Common.{◌≡◌, ℕ, Bool, true, false, ltb, ◌&&◌, List, [], ◌∷◌, refl, sym, ◌∙◌, subst}
use Rattle.std.proofs.lemmas.Bool.{cond-false, ltb-true}
use Rattle.std.proofs.lemmas.Slice.Eq.{bytes_eq-Decides}
use Rattle.std.proofs.lemmas.Str.{IsUtf8-from_ascii}
use Rattle.std.proofs.lemmas.Str.Ascii.{IsAscii-nil, IsAscii-cons}
use Rattle.std.specs.Str.{bytes_eq, IsAscii, IsUtf8}
use Rattle.naming.specs.Names.{named}

differs : (b : Bool) → (b ≡ true → ⊥) → b ≡ false
differs true h = absurd (h refl)
differs false h = refl

other_word : (word name : List ℕ) → (word ≡ name → ⊥) → bytes_eq word name ≡ false
other_word word name h = differs (bytes_eq word name) (λ e. h ((bytes_eq-Decides word name).0 e))

-- the word is none of the names
abbrev pub NoneOf : {X : Type 0} → List (List ℕ × X) → List ℕ → Type 0
NoneOf [] word = Unit {0}
NoneOf (row ∷ rows) word = (word ≡ row.0 → ⊥) × NoneOf rows word

pub unnamed : {X : Type 0} (other : X) (rows : List (List ℕ × X)) (word text : List ℕ) → text ≡ word → NoneOf rows text → named other rows word ≡ other
unnamed other [] word text e h = refl
unnamed other (row ∷ rows) word text e h =
    cond-false _ _ _ (other_word word row.0 (λ k. h.0 (e ∙ k)))
    ∙ unnamed other rows word text e h.1

both : (a b : Bool) → (a && b) ≡ true → (a ≡ true) × (b ≡ true)
both true b e = (refl, e)
both false b e = (e, cc)

-- every name is in ASCII
abbrev pub ascii : List ℕ → Bool
ascii [] = true
ascii (b ∷ bs) = ltb b 128 && ascii bs

abbrev pub ascii_names : {X : Type 0} → List (List ℕ × X) → Bool
ascii_names [] = true
ascii_names (row ∷ rows) = ascii row.0 && ascii_names rows

is_ascii : (bs : List ℕ) → ascii bs ≡ true → IsAscii bs
is_ascii [] e = IsAscii-nil
is_ascii (b ∷ bs) e = let p = both (ltb b 128) (ascii bs) e in IsAscii-cons b bs (ltb-true b 128 p.0) (is_ascii bs p.1)

-- bytes that are no text are no name
pub no_text : {X : Type 0} (other : X) (rows : List (List ℕ × X)) (word : List ℕ) → ascii_names rows ≡ true → (IsUtf8 word → ⊥) → named other rows word ≡ other
no_text other [] word t h = refl
no_text other (row ∷ rows) word t h =
    let p = both (ascii row.0) (ascii_names rows) t in
    cond-false _ _ _ (other_word word row.0 (λ k. h (subst IsUtf8 (sym k) (IsUtf8-from_ascii row.0 (is_ascii row.0 p.0)))))
    ∙ no_text other rows word p.1 h
