-- Where the whole characters end.
use Rattle.std.proofs.Common.{◌≡◌, ℕ, zero, suc, ◌+◌, ◌<◌, ◌≤◌, List, [], ◌∷◌, ◌++◌, length, take, drop, sym, refl, ap, ◌∙◌, subst, ⊎_elim, append_assoc, arith, length-append, length-drop, take-append-drop, take-add, drop_at}
use lib.Utf8.{encode}
use Rattle.std.proofs.lemmas.List.{length-take-le, take_all, drop-drop}
use Rattle.std.proofs.lemmas.Bool.{cases_lt, cond-true, cond-false, eq-eqb, ne_eqb}
use Rattle.std.proofs.lemmas.Str.{length-encode, len_utf8_bounds}
use Rattle.std.specs.List.{flat_map, AllByRecursion}
use Rattle.std.specs.Char.{len_utf8}
use Rattle.text.specs.Recv.{character, ends, text_end}
use Rattle.text.specs.Utf8.{Scalar, octets, Text, Longest}
use Rattle.text.proofs.Rows.{character_within}
use Rattle.text.proofs.Written.{written, starts}

-- they end where no character begins
ended : (n : ℕ) (bs : List ℕ) → character bs ≡ 0 → ends n bs ≡ 0
ended zero bs e = refl
ended (suc n) bs e = cond-true _ _ _ (eq-eqb (character bs) 0 e)

more : (n : ℕ) (bs : List ℕ) → 0 < character bs → ends (suc n) bs ≡ character bs + ends n (drop (character bs) bs)
more n bs h = cond-false _ _ _ (ne_eqb (character bs) 0 (λ e. omega arith))

-- a count as great as the number of bytes is enough
enough : (m n : ℕ) (bs : List ℕ) → length bs ≤ m → length bs ≤ n → ends m bs ≡ ends n bs
enough zero n bs p q = sym (ended n bs (omega (arith, character_within bs)))
enough (suc m) zero bs p q = ended (suc m) bs (omega (arith, character_within bs))
enough (suc m) (suc n) bs p q =
    ⊎_elim
    (λ h. more m bs h ∙ ap (λ k. character bs + k) (enough m n (drop (character bs) bs) (simp length-drop (omega arith)) (simp length-drop (omega arith))) ∙ sym (more n bs h))
    (λ h. ended (suc m) bs (omega arith) ∙ sym (ended (suc n) bs (omega arith)))
    (cases_lt 0 (character bs))

-- no character, and one with what follows it
pub end_none : (bs : List ℕ) → character bs ≡ 0 → text_end bs ≡ 0
end_none bs e = ended (length bs) bs e

end_at : (bs : List ℕ) (n : ℕ) → n ≡ character bs → 0 < n → text_end bs ≡ n + text_end (drop n bs)
end_at bs n e h =
    let few = length-drop (character bs) bs in
    enough (length bs) (suc (length bs)) bs (omega arith) (omega arith)
    ∙ more (length bs) bs (omega arith)
    ∙ ap (λ k. character bs + k) (enough (length bs) (length (drop (character bs) bs)) (drop (character bs) bs) (omega arith) (omega arith))
    ∙ ap (λ k. k + text_end (drop k bs)) (sym e)

pub end_more : (bs : List ℕ) (at n : ℕ) → n ≡ character (drop at bs) → 0 < n → text_end (drop at bs) ≡ n + text_end (drop (at + n) bs)
end_more bs at n e h = end_at (drop at bs) n e h ∙ ap (λ l. n + text_end l) (drop-drop n at bs)

ends_within : (n : ℕ) (bs : List ℕ) → ends n bs ≤ length bs
ends_within zero bs = omega arith
ends_within (suc n) bs =
    ⊎_elim
    (λ h. omega (arith, more n bs h, ends_within n (drop (character bs) bs), length-drop (character bs) bs, character_within bs))
    (λ h. omega (arith, ended (suc n) bs (omega arith)))
    (cases_lt 0 (character bs))

pub end_within : (bs : List ℕ) → text_end bs ≤ length bs
end_within bs = ends_within (length bs) bs

-- what ends there is text
whole : (n : ℕ) (bs : List ℕ) → Text (take (ends n bs) bs)
whole zero bs = ([], tt, refl)
whole (suc n) bs =
    ⊎_elim
    (λ h. longer (written bs h) (whole n (drop (character bs) bs)) (ap (λ k. take k bs) (more n bs h) ∙ take-add (character bs) (ends n (drop (character bs) bs)) bs))
    (λ h. subst Text (sym (ap (λ k. take k bs) (ended (suc n) bs (omega arith)))) ([], tt, refl))
    (cases_lt 0 (character bs))
  where
    longer : {xs ys zs : List ℕ} → (c : ℕ) × Scalar c × (octets c ≡ xs) → Text ys → zs ≡ xs ++ ys → Text zs
    longer {xs} {ys} (c, s, e) (cs, all, j) k = (c ∷ cs, (s, all), (λ i. e i ++ j i) ∙ sym k)

-- and no text that begins the bytes ends later
unempty : (c : ℕ) → 0 < length (octets c)
unfolding encode
unempty c = let long : length (octets c) ≡ len_utf8 c = length-encode c in omega (arith, (len_utf8_bounds c).0)

end_past : (c : ℕ) (rest : List ℕ) → Scalar c → text_end (octets c ++ rest) ≡ length (octets c) + text_end rest
end_past c rest s =
    end_at (octets c ++ rest) (length (octets c)) (sym (starts c rest s)) (unempty c)
    ∙ ap (λ l. length (octets c) + text_end l) (drop_at (octets c) rest (length (octets c)) refl)

reached : (cs rest : List ℕ) → AllByRecursion Scalar cs → length (flat_map octets cs) ≤ text_end (flat_map octets cs ++ rest)
reached [] rest all = omega arith
reached (c ∷ cs) rest all =
    let joint : (octets c ++ flat_map octets cs) ++ rest ≡ octets c ++ (flat_map octets cs ++ rest) = append_assoc (octets c) (flat_map octets cs) rest in
    omega (arith, length-append (octets c) (flat_map octets cs), ap text_end joint, end_past c (flat_map octets cs ++ rest) all.0, reached cs rest all.1)

pub longest : (bs : List ℕ) → Longest bs (text_end bs)
longest bs = record {
  within = end_within bs;
  whole = whole (length bs) bs;
  most = λ m h t.
      let back : flat_map octets t.0 ++ drop m bs ≡ bs = ap (λ l. l ++ drop m bs) t.2 ∙ take-append-drop m bs in
      omega (arith, length-take-le m bs h, ap length t.2, reached t.0 (drop m bs) t.1, ap text_end back);
}

-- bytes are text where the end is theirs
pub reaches : (bs : List ℕ) → Text bs → length bs ≤ text_end bs
reaches bs t = (longest bs).most (length bs) (omega arith) (subst Text (sym (take_all (length bs) bs (omega arith))) t)

pub is_text : (bs : List ℕ) → text_end bs ≡ length bs → Text bs
is_text bs e = subst Text (ap (λ n. take n bs) e ∙ take_all (length bs) bs (omega arith)) (longest bs).whole
