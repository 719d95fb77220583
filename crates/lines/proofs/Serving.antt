-- Input that is read and output that is written, part by part.
use Rattle.std.proofs.Common.{◌≡◌, ℕ, List, [], ◌++◌, Some, None, Option, IfSome, sym, refl, ap, ◌∙◌, subst}
use Rattle.std.proofs.lemmas.List.{append_assoc, append-nil}
use Rattle.std.specs.Io.KnownBytes.{Appends, Consumes, IsAtEnd}
use Rattle.lines.specs.Lines.{left, printed, Taken, Ended, answers_to}
use Rattle.lines.proofs.Taking.{taken_on}

appends_none : (w : Option (List ℕ)) → Appends w w []
appends_none (Some xs) = sym (append-nil xs)
appends_none None = tt

appends_on : (a b c : Option (List ℕ)) (xs ys : List ℕ) → Appends a b xs → Appends b c ys → Appends a c (xs ++ ys)
appends_on None b c xs ys p q = tt
appends_on (Some u) None c xs ys p q = absurd p
appends_on (Some u) (Some v) None xs ys p q = absurd q
appends_on (Some u) (Some v) (Some w) xs ys p q = q ∙ ap (λ l. l ++ ys) p ∙ append_assoc u xs ys

consumes_none : (r : Option (List ℕ)) → Consumes r r []
consumes_none (Some xs) = refl
consumes_none None = tt

consumes_on : (a b c : Option (List ℕ)) (xs ys : List ℕ) → Consumes a b xs → Consumes b c ys → Consumes a c (xs ++ ys)
consumes_on None b c xs ys p q = tt
consumes_on (Some u) None c xs ys p q = absurd p
consumes_on (Some u) (Some v) None xs ys p q = absurd q
consumes_on (Some u) (Some v) (Some w) xs ys p q = p ∙ ap (λ l. xs ++ l) q ∙ sym (append_assoc xs ys w)

module _ (longest : ℕ) (reply : List ℕ → List ℕ) where
  -- what was read and what was written since the beginning, and what is held of a line
  abbrev pub Served : Option (List ℕ) → Option (List ℕ) → Option (List ℕ) → Option (List ℕ) → List ℕ → Type 0
  Served unread left_unread wrote written held =
      (bs : List ℕ) × (text : List ℕ) × Consumes unread left_unread bs × Taken longest reply [] bs [] text held × Appends wrote written text

  pub served_none : (r w : Option (List ℕ)) (held : List ℕ) → held ≡ [] → Served r r w w held
  served_none r w held empty = ([], [], consumes_none r, λ line e. (refl, empty ∙ e), appends_none w)

  behind : (held bs text holds out : List ℕ) → Taken longest reply held bs [] text holds → Taken longest reply held bs out (out ++ text) holds
  behind held bs text holds out h line e = let p = h line e in (ap (λ l. out ++ l) p.0, p.1)

  pub served_on : (a b c u v w : Option (List ℕ)) (held holds bs text : List ℕ) → Served a b u v held → Consumes b c bs → Taken longest reply held bs [] text holds → Appends v w text → Served a c u w holds
  served_on a b c u v w held holds bs text s read taken wrote =
      (s.0 ++ bs, s.1 ++ text, consumes_on a b c s.0 bs s.2 read, taken_on longest reply [] s.0 bs [] s.1 held (s.1 ++ text) holds s.3 (behind held bs text holds s.1 taken), appends_on u v w s.1 text s.4 wrote)

  -- at the end of the input everything was answered
  all_read : (a b : Option (List ℕ)) (bs : List ℕ) → Consumes a b bs → IsAtEnd b → IfSome a (λ xs. xs ≡ bs)
  all_read None b bs p e = tt
  all_read (Some u) None bs p e = absurd p
  all_read (Some u) (Some v) bs p e = p ∙ ap (λ l. bs ++ l) e ∙ append-nil bs

  told_all : (a u w : Option (List ℕ)) (bs text : List ℕ) → IfSome a (λ xs. xs ≡ bs) → text ≡ answers_to reply bs → Appends u w text → IfSome a (λ xs. Appends u w (answers_to reply xs))
  told_all None u w bs text all is wrote = tt
  told_all (Some xs) u w bs text all is wrote = subst (Appends u w) (is ∙ ap (answers_to reply) (sym all)) wrote

  pub served_all : (a b u v w : Option (List ℕ)) (held last : List ℕ) → Served a b u v held → IsAtEnd b → Ended longest reply held [] last → Appends v w last → IfSome a (λ xs. Appends u w (answers_to reply xs))
  served_all a b u v w held last s end ended wrote =
      let begun = s.3 [] refl in
      let rest = ended (left [] s.0) begun.1 in
      told_all a u w s.0 (s.1 ++ last) (all_read a b s.0 s.2 end) (ap (λ l. l ++ last) begun.0 ∙ ap (λ l. printed reply [] s.0 ++ l) rest) (appends_on u v w s.1 last s.4 wrote)
