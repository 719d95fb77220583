-- Reading to the end gives the parts that the bytes are made of, and only bytes made of parts are read to the end.
use Rattle.std.proofs.Common.{◌≡◌, ℕ, zero, suc, ◌+◌, ◌-◌, ◌≤◌, Bool, true, false, cond, ltb, List, [], ◌∷◌, ◌++◌, length, take, drop, Some, None, Ok, Err, Result, sym, refl, ap, ◌∙◌, subst, arith}
use Rattle.std.proofs.lemmas.List.{append_assoc, append-nil, length-append, drop-drop, drop_all, take-append-drop}
use Rattle.std.proofs.lemmas.Bool.{cond-false, le-ltb, ltb-false, ne_eqb}
use Rattle.fault.specs.declared.Fault.{Fault}
use Rattle.fault.specs.declared.Rule.TheVariants.{Trailing}
use Rattle.fault.specs.Faults.{fault}
use Rattle.wire.specs.Bytes.{Octets}
use Rattle.wire.specs.Cursor.{State, Reader, Answer, taken, failed, step, Reads, end, more, before, Row, none, one, ReadsForms}

module _ {X : Type 0} (read : Reader X) where
  -- at the end
  pub step_end : (bs : List ℕ) (at : ℕ) → length bs ≤ at → step read (before bs at 0) ≡ (Ok None, before bs at 0)
  step_end bs at h = cond-false _ _ _ (le-ltb at (length bs) h)

  -- one part on
  pub step_on : (bs : List ℕ) (at k n : ℕ) (x : X) → read bs at ≡ Ok (x, k) → step read (before bs at (suc n)) ≡ (Ok (Some x), before bs (at + k) n)
  step_on bs at k n x e =
      let some = ne_eqb (suc n) 0 (λ z. omega arith) in
      let less : suc n - 1 ≡ n = omega arith in
      cond-false _ _ _ some ∙ ap (λ r. taken r (before bs at (suc n))) e ∙ ap (λ m. (Ok (Some x), before bs (at + k) m)) less

-- what a step that gave a part, or none, tells of the state
pub record Gave {X : Type 0} (read : Reader X) (bs : List ℕ) (at n : ℕ) (x : X) (t : State) : Type 0 where
  pub size : ℕ
  pub rest : ℕ
  pub counted : n ≡ suc rest
  pub part : read bs at ≡ Ok (x, size)
  pub on : t ≡ before bs (at + size) rest

module _ {X : Type 0} (read : Reader X) where
  gave_part : (bs : List ℕ) (at m : ℕ) (x : X) (t : State) (r : Result (X × ℕ) Fault) → read bs at ≡ r → taken r (before bs at (suc m)) ≡ (Ok (Some x), t) → Gave read bs at (suc m) x t
  gave_part bs at m x t (Ok p) is e =
      let y : p.0 ≡ x = let a = ap (λ q. q.0) e in cc in
      let less : suc m - 1 ≡ m = omega arith in
      let u : before bs (at + p.1) (suc m - 1) ≡ t = ap (λ q. q.1) e in
      record { size = p.1; rest = m; counted = refl; part = is ∙ ap (λ z. Ok (z, p.1)) y; on = sym u ∙ ap (before bs (at + p.1)) less }
  gave_part bs at m x t (Err f) is e = let a = ap (λ q. q.0) e in let z : ◌≡◌ {A = ℕ} 0 1 = cc in absurd (omega arith)

  ended_none : (bs : List ℕ) (at : ℕ) (b : Bool) (x : X) (t : State) → ◌≡◌ {A = Answer X × State} (cond b (failed (fault Trailing at) (before bs at 0)) (Ok None, before bs at 0)) (Ok (Some x), t) → ⊥
  ended_none bs at true x t e = let a = ap (λ q. q.0) e in let z : ◌≡◌ {A = ℕ} 0 1 = cc in omega arith
  ended_none bs at false x t e = let a = ap (λ q. q.0) e in let z : ◌≡◌ {A = ℕ} 0 1 = cc in omega arith

  pub gave : (bs : List ℕ) (at n : ℕ) (x : X) (t : State) → step read (before bs at n) ≡ (Ok (Some x), t) → Gave read bs at n x t
  gave bs at zero x t e = absurd (ended_none bs at (ltb at (length bs)) x t e)
  gave bs at (suc m) x t e = gave_part bs at m x t (read bs at) refl (sym (cond-false _ _ _ (ne_eqb (suc m) 0 (λ z. omega arith))) ∙ e)

  taken_some : (s t : State) (r : Result (X × ℕ) Fault) → ◌≡◌ {A = Answer X × State} (taken r s) (Ok None, t) → ⊥
  taken_some s t (Ok p) e = let a = ap (λ q. q.0) e in let z : ◌≡◌ {A = ℕ} 0 1 = cc in omega arith
  taken_some s t (Err f) e = let a = ap (λ q. q.0) e in let z : ◌≡◌ {A = ℕ} 0 1 = cc in omega arith

  no_rest : (bs : List ℕ) (at : ℕ) (b : Bool) (t : State) → ltb at (length bs) ≡ b → ◌≡◌ {A = Answer X × State} (cond b (failed (fault Trailing at) (before bs at 0)) (Ok None, before bs at 0)) (Ok None, t) → length bs ≤ at
  no_rest bs at true t l e = let a = ap (λ q. q.0) e in let z : ◌≡◌ {A = ℕ} 0 1 = cc in absurd (omega arith)
  no_rest bs at false t l e = ltb-false at (length bs) l

  -- an end is the end of the bytes, with no part to come
  pub gave_none : (bs : List ℕ) (at n : ℕ) (t : State) → step read (before bs at n) ≡ (Ok None, t) → (n ≡ 0) × (length bs ≤ at)
  gave_none bs at zero t e = (refl, no_rest bs at (ltb at (length bs)) t refl e)
  gave_none bs at (suc m) t e = absurd (taken_some (before bs at (suc m)) t (read bs at) (sym (cond-false _ _ _ (ne_eqb (suc m) 0 (λ z. omega arith))) ∙ e))

module _ {X : Type 0} (read : Reader X) (form : X → List ℕ → Type 0) (laws : ReadsForms read form) where
  pub reads_row : (pre : List ℕ) {es : List ℕ} {xs : List X} → Row form xs es → Reads read (before (pre ++ es) (length pre) (length xs)) xs
  reads_row pre none = end (step_end read (pre ++ []) (length pre) (omega (arith, ap length (append-nil pre))))
  reads_row pre (one {x = x} {xs = xs} {e = e} {es = fs} f row) =
      let on = step_on read (pre ++ (e ++ fs)) (length pre) (length e) (length xs) x (laws.reads pre e fs x f) in
      let place : length pre + length e ≡ length (pre ++ e) = sym (length-append pre e) in
      let next = subst (λ bs. Reads read (before bs (length (pre ++ e)) (length xs)) xs) (append_assoc pre e fs) (reads_row (pre ++ e) row) in
      more on (subst (λ p. Reads read (before (pre ++ (e ++ fs)) p (length xs)) xs) (sym place) next)

  row_from : {s : State} {xs : List X} → Reads read s xs → (bs : List ℕ) → Octets bs → (at n : ℕ) → at ≤ length bs → s ≡ before bs at n → (length xs ≡ n) × Row form xs (drop at bs)
  row_from (end {t = t} e) bs small at n h is =
      let g = gave_none read bs at n t (sym (ap (step read) is) ∙ e) in
      (sym g.0, subst (λ l. Row form [] l) (sym (drop_all at bs g.1)) none)
  row_from (more {t = t} {x = x} {xs = xs} e rest) bs small at n h is =
      let g = gave read bs at n x t (sym (ap (step read) is) ∙ e) in
      let f = laws.formed bs at g.size x small g.part in
      let next = row_from rest bs small (at + g.size) g.rest f.0 g.on in
      let cut : take g.size (drop at bs) ++ drop (at + g.size) bs ≡ drop at bs = ap (λ l. take g.size (drop at bs) ++ l) (sym (drop-drop g.size at bs)) ∙ take-append-drop g.size (drop at bs) in
      (ap suc next.0 ∙ sym g.counted, subst (λ l. Row form (x ∷ xs) l) cut (one f.1 next.1))

  pub row_read : (bs : List ℕ) → Octets bs → (at n : ℕ) {xs : List X} → at ≤ length bs → Reads read (before bs at n) xs → (length xs ≡ n) × Row form xs (drop at bs)
  row_read bs small at n h rs = row_from rs bs small at n h refl
