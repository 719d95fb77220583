-- Lines that are cut, and input that is taken in byte by byte.
use Rattle.std.proofs.Common.{◌≡◌, ℕ, suc, ◌+◌, ◌-◌, ◌<◌, ◌≤◌, true, false, cond, eqb, Some, None, Option, List, [], ◌∷◌, ◌++◌, length, take, sym, refl, ap, ◌∙◌, subst, ⊎_elim, arith}
use Rattle.std.proofs.lemmas.List.{append_assoc, append-nil, length-take-le, take_all, take-append-le}
use Rattle.std.proofs.Math.Seq.{take-append-add}
use Rattle.std.proofs.lemmas.Bool.{cases_lt, cond-true, cond-false, cond_both, lt-leb}
use Rattle.answers.specs.Plain.{bad_request}
use Rattle.syntax.specs.Parsed.{widened, split_at}
use Rattle.lines.specs.Lines.{answer_line, printed, left, cut, more, Taken, Ended}
use Rattle.lines.specs.Reply.{reply_to}

-- bytes behind others
module _ (reply : List ℕ → List ℕ) where
  printed_append : (line bs cs : List ℕ) → printed reply line (bs ++ cs) ≡ printed reply line bs ++ printed reply (left line bs) cs
  printed_append line [] cs = refl
  printed_append line (x ∷ bs) cs =
      elim (eqb x 10) as (λ t. cond t (answer_line reply line ++ printed reply [] (bs ++ cs)) (printed reply (line ++ (x ∷ [])) (bs ++ cs))
      ≡ cond t (answer_line reply line ++ printed reply [] bs) (printed reply (line ++ (x ∷ [])) bs) ++ printed reply (cond t (left [] bs) (left (line ++ (x ∷ [])) bs)) cs) [
        | true ↦ ap (λ l. answer_line reply line ++ l) (printed_append [] bs cs) ∙ sym (append_assoc (answer_line reply line) (printed reply [] bs) (printed reply (left [] bs) cs))
        | false ↦ printed_append (line ++ (x ∷ [])) bs cs
      ]

-- less stands behind a separator
module _ (sep : ℕ) where
  abbrev Fewer : List ℕ → Option (List ℕ × List ℕ) → Type 0
  Fewer bs (Some p) = length p.1 < length bs
  Fewer bs None = Unit {0}

  widened_fewer : (x : ℕ) (cs : List ℕ) (o : Option (List ℕ × List ℕ)) → Fewer cs o → Fewer (x ∷ cs) (widened x o)
  widened_fewer x cs (Some p) h = omega arith
  widened_fewer x cs None h = tt

  fewer : (bs : List ℕ) → Fewer bs (split_at sep bs)
  fewer [] = tt
  fewer (x ∷ cs) = cond_both (eqb x sep) (Some ([], cs)) (widened x (split_at sep cs)) (Fewer (x ∷ cs)) (λ _. omega arith) (λ _. widened_fewer x cs (split_at sep cs) (fewer cs))

  pub split_less : (bs p q : List ℕ) → Some (p, q) ≡ split_at sep bs → length q < length bs
  split_less bs p q e = subst (Fewer bs) (sym e) (fewer bs)

-- what is printed for bytes by their first newline
module _ (reply : List ℕ → List ℕ) where
  abbrev Printed : List ℕ → List ℕ → Option (List ℕ × List ℕ) → Type 0
  Printed line bs (Some p) = (printed reply line bs ≡ answer_line reply (line ++ p.0) ++ printed reply [] p.1) × (left line bs ≡ left [] p.1)
  Printed line bs None = (printed reply line bs ≡ []) × (left line bs ≡ line ++ bs)

  widened_on : (line : List ℕ) (x : ℕ) (cs : List ℕ) (o : Option (List ℕ × List ℕ)) → eqb x 10 ≡ false → Printed (line ++ (x ∷ [])) cs o → Printed line (x ∷ cs) (widened x o)
  widened_on line x cs (Some p) f h = (
    cond-false _ _ _ f ∙ h.0 ∙ ap (λ l. answer_line reply l ++ printed reply [] p.1) (append_assoc line (x ∷ []) p.0),
    cond-false _ _ _ f ∙ h.1,
  )
  widened_on line x cs None f h = (cond-false _ _ _ f ∙ h.0, cond-false _ _ _ f ∙ h.1 ∙ append_assoc line (x ∷ []) cs)

  printed_by : (line bs : List ℕ) → Printed line bs (split_at 10 bs)
  printed_by line [] = (refl, sym (append-nil line))
  printed_by line (x ∷ cs) =
      cond_both (eqb x 10) (Some ([], cs)) (widened x (split_at 10 cs)) (Printed line (x ∷ cs))
      (λ t. (cond-true _ _ _ t ∙ ap (λ l. answer_line reply l ++ printed reply [] cs) (sym (append-nil line)), cond-true _ _ _ t))
      (λ f. widened_on line x cs (split_at 10 cs) f (printed_by (line ++ (x ∷ [])) cs))

  printed_split : (line bs p q : List ℕ) → split_at 10 bs ≡ Some (p, q) → Printed line bs (Some (p, q))
  printed_split line bs p q e = subst (Printed line bs) e (printed_by line bs)

  printed_whole : (line bs : List ℕ) → split_at 10 bs ≡ None → Printed line bs None
  printed_whole line bs e = subst (Printed line bs) e (printed_by line bs)

left_append : (line bs cs : List ℕ) → left line (bs ++ cs) ≡ left (left line bs) cs
left_append line [] cs = refl
left_append line (x ∷ bs) cs =
    elim (eqb x 10) as (λ t. cond t (left [] (bs ++ cs)) (left (line ++ (x ∷ [])) (bs ++ cs))
    ≡ left (cond t (left [] bs) (left (line ++ (x ∷ [])) bs)) cs) [
      | true ↦ left_append [] bs cs
      | false ↦ left_append (line ++ (x ∷ [])) bs cs
    ]

pub taken_on : (longest : ℕ) (reply : List ℕ → List ℕ) (held bs cs out mid between after holds : List ℕ) → Taken longest reply held bs out mid between → Taken longest reply between cs mid after holds → Taken longest reply held (bs ++ cs) out after holds
taken_on longest reply held bs cs out mid between after holds first next line e =
    let p = first line e in
    let q = next (left line bs) p.1 in
    let last = printed reply (left line bs) cs in (
      q.0 ∙ ap (λ l. l ++ last) p.0 ∙ append_assoc out (printed reply line bs) last ∙ ap (λ l. out ++ l) (sym (printed_append reply line bs cs)),
      q.1 ∙ ap (cut longest) (sym (left_append line bs cs)),
    )

-- a line is cut where it is longer than a request may be
module _ (longest : ℕ) where
  cut_short : (line : List ℕ) → length line ≤ suc longest → cut longest line ≡ line
  cut_short line h = take_all (suc longest) line h

  cut_long : (line : List ℕ) → suc longest ≤ length line → length (cut longest line) ≡ suc longest
  cut_long line h = length-take-le (suc longest) line h

  -- more of the line
  pub cut_more : (line piece : List ℕ) → more longest (cut longest line) piece ≡ cut longest (line ++ piece)
  cut_more line piece =
      ⊎_elim
      (λ h. let all : length line + (suc longest - length line) ≡ suc longest = omega arith in
      ap (λ l. more longest l piece) (cut_short line (omega arith))
      ∙ sym (take-append-add line piece (suc longest - length line))
      ∙ ap (λ n. take n (line ++ piece)) all)
      (λ h. let long : length (cut longest line) ≡ suc longest = cut_long line h in
      let none : suc longest - length (cut longest line) ≡ 0 = omega arith in
      ap (λ n. cut longest line ++ take n piece) none ∙ append-nil (cut longest line) ∙ sym (take-append-le (suc longest) line piece h))
      (cases_lt (length line) (suc longest))

-- any requests
module _ (longest : ℕ) (named : List ℕ → List ℕ → List ℕ) (alone : List ℕ → List ℕ) where
  abbrev answers : List ℕ → List ℕ
  answers = reply_to longest named alone

  too_long : (line : List ℕ) → longest < length line → answers line ≡ bad_request
  too_long line h = cond-false _ _ _ (lt-leb _ _ h)

  -- a line is answered by what is kept of it
  reply_cut : (line : List ℕ) → answers (cut longest line) ≡ answers line
  reply_cut line =
      ⊎_elim
      (λ h. let above : suc longest < length line = h in
      let long : length (cut longest line) ≡ suc longest = cut_long longest line (omega arith) in too_long (cut longest line) (omega arith) ∙ sym (too_long line (omega arith)))
      (λ h. ap answers (cut_short longest line h))
      (cases_lt (suc longest) (length line))

  -- bytes with a newline: what comes before it ends the line
  pub taken_line : (held bs p q out mid after holds : List ℕ) → Some (p, q) ≡ split_at 10 bs → mid ≡ out ++ answer_line answers (more longest held p) → Taken longest answers [] q mid after holds → Taken longest answers held bs out after holds
  taken_line held bs p q out mid after holds cuts wrote next line e =
      let split = printed_split answers line bs p q (sym cuts) in
      let then_on = next [] refl in
      let kept : more longest held p ≡ cut longest (line ++ p) = ap (λ l. more longest l p) e ∙ cut_more longest line p in
      let answer : answer_line answers (more longest held p) ≡ answer_line answers (line ++ p) = ap (answer_line answers) kept ∙ ap (λ l. l ++ (10 ∷ [])) (reply_cut (line ++ p)) in (
        then_on.0
            ∙ ap (λ l. l ++ printed answers [] q) (wrote ∙ ap (λ l. out ++ l) answer)
            ∙ append_assoc out (answer_line answers (line ++ p)) (printed answers [] q)
            ∙ ap (λ l. out ++ l) (sym split.0),
        then_on.1 ∙ ap (cut longest) (sym split.1),
      )

  -- bytes with no newline are kept
  pub taken_piece : (held bs out holds : List ℕ) → None ≡ split_at 10 bs → holds ≡ more longest held bs → Taken longest answers held bs out out holds
  taken_piece held bs out holds cuts kept line e =
      let whole = printed_whole answers line bs (sym cuts) in (
        sym (ap (λ l. out ++ l) whole.0 ∙ append-nil out),
        kept ∙ ap (λ l. more longest l bs) e ∙ cut_more longest line bs ∙ ap (cut longest) (sym whole.1),
      )

  -- nothing is held at the end, or something
  not_empty : (held : List ℕ) (b : ℕ) (bs : List ℕ) → held ≡ cut longest (b ∷ bs) → length held ≡ 0 → ⊥
  not_empty held b bs e none = let n = ap length e in omega arith

  pub ended_none : (held out : List ℕ) → length held ≡ 0 → Ended longest answers held out out
  ended_none held out h [] e = sym (append-nil out)
  ended_none held out h (b ∷ bs) e = absurd (not_empty held b bs e h)

  pub ended_some : (held out after : List ℕ) → (length held ≡ 0 → ⊥) → after ≡ out ++ answer_line answers held → Ended longest answers held out after
  ended_some held out after h wrote [] e = let n = ap length e in absurd (h n)
  ended_some held out after h wrote (b ∷ bs) e =
      wrote ∙ ap (λ l. out ++ l) (ap (answer_line answers) e ∙ ap (λ l. l ++ (10 ∷ [])) (reply_cut (b ∷ bs)))
