-- The number of bytes of entries, counted one after another.
use Rattle.std.proofs.Common.{◌≡◌, ℕ, ◌+◌, ◌-◌, ◌^◌, min, List, ◌∷◌, length, Some, Ok, Err, Result, sym, refl, ap, ◌∙◌, arith}
use Rattle.std.proofs.lemmas.List.{length-append}
use Rattle.fault.specs.declared.Fault.{Fault}
use Rattle.texts.specs.Places.{Bytes, place_item}
use Rattle.wire.specs.Words.{Value, then}
use Rattle.hstore.specs.declared.entry.HstoreEntry.{HstoreEntry}
use Rattle.hstore.specs.Encoding.{key_of, entry_text, entry_size, entries_size}
use Rattle.hstore.specs.Layout.{Entry, entry_layout, entries_layout}

-- an entry by the texts at its places
pub entry_sized : (ps : Bytes) (k : ℕ) (e : HstoreEntry) (key : List ℕ) (value : Value) {u v : Value} → Ok u ≡ place_item ps k e.key → u ≡ Some key → Ok v ≡ place_item ps k e.value → v ≡ value → Ok (length (entry_layout (key, value))) ≡ entry_size (entry_text ps k e)
entry_sized ps k e key value key-item some value-item is =
    sym (
    ap (λ r. entry_size (then (then r (key_of k)) (λ t. then (place_item ps k e.value) (λ v. Ok (t, v))))) (sym key-item ∙ ap Ok some)
    ∙ ap (λ r. entry_size (then r (λ v. Ok (key, v)))) (sym value-item ∙ ap Ok is)
    )

-- the bytes so far with those of the entries that are left, as far as a usize counts
abbrev pub size_from : ℕ → Result (List Entry) Fault → Result ℕ Fault
size_from bytes r = then r (λ xs. Ok (min (bytes + length (entries_layout xs)) (2 ^ 64 - 1)))

-- one entry more
pub size_more : (first : Result Entry Fault) (rest : Result (List Entry) Fault) (bytes n : ℕ) → Ok n ≡ entry_size first → size_from (min (bytes + n) (2 ^ 64 - 1)) rest ≡ size_from bytes (then first (λ x. then rest (λ xs. Ok (x ∷ xs))))
size_more (Ok x) (Ok xs) bytes n e =
    let long = length-append (entry_layout x) (entries_layout xs) in
    let here : n ≡ length (entry_layout x) = cc in
    ap Ok (omega arith)
size_more (Ok x) (Err f) bytes n e = refl
size_more (Err f) rest bytes n e = let z : ◌≡◌ {A = ℕ} 0 1 = cc in absurd (omega arith)

-- a fault comes up
pub size_fault : (first : Result Entry Fault) (rest : Entry → Result (List Entry) Fault) (bytes : ℕ) (f : Fault) → Err f ≡ entry_size first → size_from bytes (then first rest) ≡ Err f
size_fault (Ok x) rest bytes f e = cc
size_fault (Err g) rest bytes f e = sym e

-- a size was told, so the texts are there
pub sized : (r : Result (List Entry) Fault) (bytes : ℕ) → Ok bytes ≡ entries_size r → (xs : List Entry) × (r ≡ Ok xs) × (bytes ≡ min (length (entries_layout xs)) (2 ^ 64 - 1))
sized (Ok xs) bytes e = (xs, refl, cc)
sized (Err f) bytes e = let z : ◌≡◌ {A = ℕ} 0 1 = cc in absurd (omega arith)
