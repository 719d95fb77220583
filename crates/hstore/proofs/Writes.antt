-- The writes of an hstore, one behind another.
use Rattle.std.proofs.Common.{◌≡◌, ℕ, ◌+◌, ◌^◌, ◌<◌, ◌≤◌, cond, ltb, List, [], ◌∷◌, ◌++◌, length, get_or, take, drop, Ok, Err, sym, refl, ap, ◌∙◌, zero-le, arith, None}
use Rattle.std.proofs.lemmas.List.{append_assoc, length-append, take_more, take-append-drop, flat_map_more}
use Rattle.std.proofs.lemmas.Bool.{cond-true, lt-ltb}
use Rattle.std.specs.List.{flat_map}
use Rattle.fault.specs.declared.Rule.TheVariants.{TooGreat}
use Rattle.fault.specs.Faults.{fault}
use Rattle.texts.specs.Places.{Bytes}
use Rattle.wire.specs.Bytes.{put, over}
use Rattle.wire.specs.Encoding.{laid_at}
use Rattle.wire.specs.Items.{nullable}
use Rattle.wire.specs.Words.{then, be}
use Rattle.wire.proofs.Writing.{laid_fits, put_on, put_start}
use Rattle.hstore.specs.declared.entry.HstoreEntry.{HstoreEntry}
use Rattle.hstore.specs.Encoding.{keys_there, entry_texts, hstore_encoding, place_value, places_layout}
use Rattle.hstore.specs.Layout.{Entry, hstore_layout}
use Rattle.hstore.proofs.Texts.{Tolds, same_layout, same_count}

joined_append : {X A : Type 0} (f : X → List A) (xs ys : List X) → flat_map f (xs ++ ys) ≡ flat_map f xs ++ flat_map f ys
joined_append f [] ys = refl
joined_append f (x ∷ xs) ys = ap (λ r. f x ++ r) (joined_append f xs ys) ∙ sym (append_assoc (f x) (flat_map f xs) (flat_map f ys))

-- what is read past the entries
abbrev pub no_entry : HstoreEntry
no_entry = record { key = None; value = None }

-- entry i behind those before it
module _ (ps : Bytes) (es : List HstoreEntry) (i : ℕ) where
  abbrev pub done : List ℕ
  done = flat_map (places_layout ps) (take i es)

  abbrev pub key_bytes : List ℕ
  key_bytes = nullable (place_value ps (get_or es i no_entry).key)

  abbrev pub value_bytes : List ℕ
  value_bytes = nullable (place_value ps (get_or es i no_entry).value)

  pub entry_more : i < length es → flat_map (places_layout ps) (take (i + 1) es) ≡ (done ++ key_bytes) ++ value_bytes
  entry_more here =
      ap (flat_map (places_layout ps)) (take_more es i no_entry here) ∙ sym (flat_map_more (places_layout ps) [] (take i es) (get_or es i no_entry)) ∙ sym (append_assoc done key_bytes value_bytes)

  -- it is among all
  pub entry_within : i < length es → length done + length key_bytes + length value_bytes ≤ length (flat_map (places_layout ps) es)
  entry_within here =
      let whole = ap (flat_map (places_layout ps)) (sym (take-append-drop (i + 1) es)) ∙ joined_append (places_layout ps) (take (i + 1) es) (drop (i + 1) es) in
      omega (
        arith,
        ap length whole,
        length-append (flat_map (places_layout ps) (take (i + 1) es)) (flat_map (places_layout ps) (drop (i + 1) es)),
        ap length (entry_more here),
        length-append (done ++ key_bytes) value_bytes,
        length-append done key_bytes,
      )

-- what is written for texts that were told
pub encoding_is : (ps : Bytes) (es : List HstoreEntry) (xs : List Entry) → Ok tt ≡ keys_there 0 es → entry_texts ps 0 es ≡ Ok xs → length es < 2 ^ 31 → hstore_encoding ps es ≡ Ok (hstore_layout xs)
encoding_is ps es xs keys texts few =
    ap (λ r. then r (λ _. then (entry_texts ps 0 es) (λ ys. cond (ltb (length es) (2 ^ 31)) (Ok (hstore_layout ys)) (Err (fault TooGreat 0))))) (sym keys)
    ∙ ap (λ r. then r (λ ys. cond (ltb (length es) (2 ^ 31)) (Ok (hstore_layout ys)) (Err (fault TooGreat 0)))) texts
    ∙ cond-true _ _ _ (lt-ltb (length es) (2 ^ 31) few)

-- the count, then the entries
pub laid_out : (ps : Bytes) (es : List HstoreEntry) (xs : List Entry) (part : List ℕ) {p₁ p₂ : List ℕ} → Tolds ps es xs → 4 ≤ length part → p₁ ≡ laid_at 0 (be 4 (length es)) part → p₂ ≡ put 4 (flat_map (places_layout ps) es) p₁ → p₂ ≡ over (hstore_layout xs) part
laid_out ps es xs part told room count entries =
    let ws = flat_map (places_layout ps) es in
    let first = count ∙ laid_fits 0 (be 4 (length es)) part (omega arith) in
    put_on 0 4 (be 4 (length es)) ws part zero-le refl first entries ∙ put_start (be 4 (length es) ++ ws) part
    ∙ ap (λ n. over (be 4 n ++ ws) part) (sym (same_count told)) ∙ ap (λ l. over (be 4 (length xs) ++ l) part) (same_layout told)
