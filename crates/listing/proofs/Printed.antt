-- Items as they are printed, one by one.
use Rattle.std.proofs.Common.{◌≡◌, ℕ, ◌+◌, ◌<◌, ◌≤◌, List, [], ◌∷◌, ◌++◌, map, length, take, Err, codes, sym, refl, ap, ◌∙◌, arith}
use Rattle.std.proofs.lemmas.List.{append_assoc, length-map, length-take, map_more, take_all}
use Rattle.fault.specs.declared.Rule.TheVariants.{Missing}
use Rattle.fault.specs.Faults.{fault}
use Rattle.wire.specs.Items.{Item}
use Rattle.serializer.specs.Lists.{item_at}
use Rattle.answers.specs.Plain.{commas}
use Rattle.listing.specs.Answers.{item_text, items_text}

commas_more : (ts : List (List ℕ)) (t : List ℕ) → 0 < length ts → commas (ts ++ (t ∷ [])) ≡ commas ts ++ (44 ∷ t)
commas_more [] t h = absurd (omega arith)
commas_more (u ∷ []) t h = refl
commas_more (u ∷ v ∷ ts) t h =
    ap (λ l. u ++ (44 ∷ l)) (commas_more (v ∷ ts) t (omega arith)) ∙ sym (append_assoc u (44 ∷ commas (v ∷ ts)) (44 ∷ t))

-- the first items, and behind which text
abbrev pub begun : List Item → ℕ → List ℕ
begun is k = codes "items [" ++ commas (map item_text (take k is))

next_text : (is : List Item) (k : ℕ) → k < length is → map item_text (take (k + 1) is) ≡ map item_text (take k is) ++ (item_text (item_at is k) ∷ [])
next_text is k h = map_more item_text is k (Err (fault Missing k)) h

module _ (is : List Item) (k : ℕ) (h : k < length is) (before after : List ℕ) (added : after ≡ before ++ item_text (item_at is k)) where
  pub begun_first : k ≤ 0 → before ≡ begun is k → after ≡ begun is (k + 1)
  begun_first first e =
      let zero : k ≡ 0 = omega arith in
      let none = ap (λ j. map item_text (take j is)) zero in
      let t = item_text (item_at is k) in
      added
      ∙ ap (λ l. l ++ t) (e ∙ ap (λ ts. codes "items [" ++ commas ts) none)
      ∙ ap (λ ts. codes "items [" ++ commas ts) (sym (next_text is k h ∙ ap (λ ts. ts ++ (t ∷ [])) none))

  pub begun_more : 0 < k → before ≡ begun is k ++ (44 ∷ []) → after ≡ begun is (k + 1)
  begun_more some e =
      let ts = map item_text (take k is) in
      let t = item_text (item_at is k) in
      let long : 0 < length ts = simp (length-map, length-take) (omega arith) in
      added
      ∙ ap (λ l. l ++ t) e
      ∙ append_assoc (begun is k) (44 ∷ []) t
      ∙ append_assoc (codes "items [") (commas ts) (44 ∷ t)
      ∙ ap (λ l. codes "items [" ++ l) (sym (ap commas (next_text is k h) ∙ commas_more ts t long))

pub begun_all : (is : List Item) (k : ℕ) → length is ≤ k → begun is k ++ (93 ∷ []) ≡ items_text is
begun_all is k h =
    append_assoc (codes "items [") (commas (map item_text (take k is))) (93 ∷ [])
    ∙ ap (λ l. codes "items [" ++ (commas (map item_text l) ++ (93 ∷ []))) (take_all k is h)
