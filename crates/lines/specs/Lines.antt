-- Input in lines, and what is printed for it.
use Rattle.std.specs.Prelude.{◌≡◌, ℕ, suc, ◌-◌, cond, List, [], ◌∷◌, ◌++◌, length, take, ◌==◌}

-- the answer to a line, with its newline
abbrev pub answer_line : (List ℕ → List ℕ) → List ℕ → List ℕ
answer_line reply line = reply line ++ (10 ∷ [])

-- what is printed for the lines that end in the bytes, where the first of them has begun already
abbrev pub printed : (List ℕ → List ℕ) → List ℕ → List ℕ → List ℕ
printed reply line [] = []
printed reply line (b ∷ bs) = cond (b == 10) (answer_line reply line ++ printed reply [] bs) (printed reply (line ++ (b ∷ [])) bs)

-- the line that has begun behind the bytes
abbrev pub left : List ℕ → List ℕ → List ℕ
left line [] = line
left line (b ∷ bs) = cond (b == 10) (left [] bs) (left (line ++ (b ∷ [])) bs)

-- the last line, which need not end in a newline
abbrev pub last_printed : (List ℕ → List ℕ) → List ℕ → List ℕ
last_printed reply [] = []
last_printed reply (b ∷ bs) = answer_line reply (b ∷ bs)

-- what is kept of a line: one byte more than a request may have, so that its answer stays the same
abbrev pub cut : ℕ → List ℕ → List ℕ
cut longest line = take (suc longest) line

-- what is kept once more bytes of the line have come
abbrev pub more : ℕ → List ℕ → List ℕ → List ℕ
more longest held piece = held ++ take (suc longest - length held) piece

-- bytes that are taken in, where the beginning of a line is held: the answers that are added, and what is held then
abbrev pub Taken : ℕ → (List ℕ → List ℕ) → List ℕ → List ℕ → List ℕ → List ℕ → List ℕ → Type 0
Taken longest reply held bs out after holds = (line : List ℕ) → held ≡ cut longest line → (after ≡ out ++ printed reply line bs) × (holds ≡ cut longest (left line bs))

-- the end of the input
abbrev pub Ended : ℕ → (List ℕ → List ℕ) → List ℕ → List ℕ → List ℕ → Type 0
Ended longest reply held out after = (line : List ℕ) → held ≡ cut longest line → after ≡ out ++ last_printed reply line

-- all that is printed for an input
abbrev pub answers_to : (List ℕ → List ℕ) → List ℕ → List ℕ
answers_to reply bs = printed reply [] bs ++ last_printed reply (left [] bs)
