-- A cursor's steps by their texts.
use Rattle.std.proofs.Common.{◌≡◌, ℕ, suc, Bool, true, false, cond, eqb, ltb, List, [], ◌++◌, length, Some, None, Ok, Err, Option, Result, sym, refl, ap, ◌∙◌, arith}
use Rattle.std.proofs.lemmas.List.{append-nil}
use Rattle.std.proofs.lemmas.Bool.{cond_both, eqb-false}
use Rattle.fault.specs.declared.Fault.{Fault}
use Rattle.fault.specs.declared.Rule.TheVariants.{Trailing}
use Rattle.fault.specs.Faults.{fault}
use Rattle.wire.specs.Cursor.{State, Reader, Answer, failed, taken, ended, next_of, step}
use Rattle.answers.specs.Parts.{shown, texts_of, next_texts, steps_texts, part_text, goes_on, ShownBy}
use Rattle.answers.specs.Plain.{failure}
use Rattle.wire.specs.Cursors.{told_next}
use Rattle.answers.proofs.Texts.{onward, onward_none, onward_more}

-- a step by the texts of parts is the step, with its part shown
module _ {X : Type 0} (show : X → List ℕ) (read : Reader X) where
  abbrev as_texts : Answer X × State → Answer (List ℕ) × State
  as_texts p = (told_next show p.0, p.1)

  taken_shown : (s : State) (r : Result (X × ℕ) Fault) → taken (shown show r) s ≡ as_texts (taken r s)
  taken_shown s (Ok p) = refl
  taken_shown s (Err f) = refl

  ended_shown : (s : State) (b : Bool) → ◌≡◌ {A = Answer (List ℕ) × State} (cond b (failed (fault Trailing s.place) s) (Ok None, s)) (as_texts (cond b (failed (fault Trailing s.place) s) (Ok None, s)))
  ended_shown s true = refl
  ended_shown s false = refl

  going_shown : (s : State) (b : Bool) → cond b (ended s) (taken (texts_of show read s.bytes s.place) s) ≡ as_texts (cond b (ended s) (taken (read s.bytes s.place) s))
  going_shown s true = ended_shown s (ltb s.place (length s.bytes))
  going_shown s false = taken_shown s (read s.bytes s.place)

  next_shown : (s : State) (met : Option Fault) → next_of (texts_of show read) met s ≡ as_texts (next_of read met s)
  next_shown s (Some f) = refl
  next_shown s None = going_shown s (eqb s.left 0)

  step_shown : (s : State) → step (texts_of show read) s ≡ (told_next show (step read s).0, (step read s).1)
  step_shown s = next_shown s s.met

  told_shown : {I : Type 0} (seen : I → X) (a : Result (Option I) Fault) → told_next (λ i. show (seen i)) a ≡ told_next show (told_next seen a)
  told_shown seen (Ok (Some i)) = refl
  told_shown seen (Ok None) = refl
  told_shown seen (Err f) = refl

  -- what a cursor told, with the part shown
  pub shows : {I : Type 0} (seen : I → X) (s : State) (a : Result (Option I) Fault) → told_next seen a ≡ (step read s).0 → ShownBy (λ i. show (seen i)) (texts_of show read) s a (step read s).1
  shows seen s a told =
      let both = step_shown s in
      (told_shown seen a ∙ ap (told_next show) told ∙ sym (ap (λ p. p.0) both), sym (ap (λ p. p.1) both))

-- a step that gives a part leaves one less to come
module _ (read : Reader (List ℕ)) where
  abbrev Counted : State → Answer (List ℕ) × State → Type 0
  Counted s p = (t : List ℕ) → p.0 ≡ Ok (Some t) → s.left ≡ suc p.1.left

  taken_counted : (s : State) (r : Result (List ℕ × ℕ) Fault) → (s.left ≡ 0 → ⊥) → Counted s (taken r s)
  taken_counted s (Ok p) some t e = omega arith
  taken_counted s (Err f) some t e = let z : ◌≡◌ {A = ℕ} 0 1 = cc in absurd (omega arith)

  ended_counted : (s : State) → Counted s (ended s)
  ended_counted s =
      cond_both (ltb s.place (length s.bytes)) (failed (fault Trailing s.place) s) (Ok None, s) (Counted s)
      (λ _ t e. let z : ◌≡◌ {A = ℕ} 0 1 = cc in absurd (omega arith))
      (λ _ t e. let z : ◌≡◌ {A = ℕ} 0 1 = cc in absurd (omega arith))

  next_counted : (s : State) (met : Option Fault) → Counted s (next_of read met s)
  next_counted s (Some f) = λ t e. let z : ◌≡◌ {A = ℕ} 0 1 = cc in absurd (omega arith)
  next_counted s None =
      cond_both (eqb s.left 0) (ended s) (taken (read s.bytes s.place) s) (Counted s)
      (λ _. ended_counted s)
      (λ n. taken_counted s (read s.bytes s.place) (eqb-false s.left 0 n))

-- what is still to print from a state
abbrev pub to_print : Reader (List ℕ) → Bool → State → List ℕ
to_print read first s = onward first (steps_texts read (suc s.left) s)

-- a step that was printed, by its answer and the state behind it
module _ (read : Reader (List ℕ)) (first : Bool) (s : State) where
  going : (a : Answer (List ℕ)) → goes_on a ≡ true → (t : List ℕ) × (a ≡ Ok (Some t))
  going (Ok None) e = let z : ◌≡◌ {A = Bool} true false = cc in ([], cc)
  going (Ok (Some t)) e = (t, refl)
  going (Err f) e = let z : ◌≡◌ {A = Bool} true false = cc in ([], cc)

  pub left_falls : goes_on (step read s).0 ≡ true → s.left ≡ suc (step read s).1.left
  left_falls on = let g = going (step read s).0 on in next_counted read s s.met g.0 g.1

  printed_on : (a : Answer (List ℕ)) (rest : List (List ℕ)) → goes_on a ≡ true → onward first (next_texts a rest) ≡ part_text first a ++ onward false rest
  printed_on a rest on =
      let g = going a on in
      ap (λ b. onward first (next_texts b rest)) g.1
      ∙ onward_more first g.0 rest
      ∙ ap (λ b. part_text first b ++ onward false rest) (sym g.1)

  pub part_on : goes_on (step read s).0 ≡ true → to_print read first s ≡ part_text first (step read s).0 ++ to_print read false (step read s).1
  part_on on =
      printed_on (step read s).0 (steps_texts read s.left (step read s).1) on
      ∙ ap (λ n. part_text first (step read s).0 ++ onward false (steps_texts read n (step read s).1)) (left_falls on)

  printed_end : (a : Answer (List ℕ)) (rest : List (List ℕ)) → goes_on a ≡ false → onward first (next_texts a rest) ≡ part_text first a
  printed_end (Ok None) rest e = onward_none first
  printed_end (Ok (Some t)) rest e = let z : ◌≡◌ {A = ℕ} 0 1 = cc in absurd (omega arith)
  printed_end (Err f) rest e = onward_more first (failure f) [] ∙ append-nil _

  pub part_end : goes_on (step read s).0 ≡ false → to_print read first s ≡ part_text first (step read s).0
  part_end e = printed_end (step read s).0 (steps_texts read s.left (step read s).1) e
