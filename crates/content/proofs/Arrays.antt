-- Arrays whose dimensions fit their items.
use Rattle.std.proofs.Common.{◌≡◌, ℕ, ◌+◌, ◌*◌, ◌^◌, ◌<◌, Bool, true, false, cond, ltb, List, ◌∷◌, map, length, get_or, drop, ℤ, pos, negsuc, Some, None, Ok, Err, Option, sym, refl, ap, ◌∙◌, add-one, arith, drop-cons}
use Rattle.std.proofs.lemmas.Bool.{ltb-true}
use Rattle.fault.specs.declared.Fault.{Fault}
use Rattle.fault.specs.declared.Rule.TheVariants.{TooGreat, Dimensions}
use Rattle.fault.specs.Faults.{fault}
use Rattle.array.specs.declared.dimension.ArrayDimension.{ArrayDimension}
use Rattle.array.specs.Encoding.{array_encoding}
use Rattle.array.specs.Layout.{array_layout}
use Rattle.serializer.specs.Lists.{values, first_fault, refused_or}
use Rattle.wire.specs.Items.{Item}
use Rattle.wire.specs.Words.{then}
use Rattle.wire.proofs.Taking.{passed}
use Rattle.rows.specs.Windows.{above}
use Rattle.content.specs.Encoders.{array_content}
use Rattle.content.specs.Rules.{Kept, factor, product_of, dimensions_fit}
use Rattle.content.proofs.Raising.{values_raised, fault_raised}

-- a product that was made fits
pub factor_below : (i p : ℕ) (z : ℤ) (q : ℕ) → Ok q ≡ factor i p z → q < 2 ^ 31
factor_below i p (pos n) q e =
    let t = passed (ltb (p * n) (2 ^ 31)) (Ok (p * n)) (fault Dimensions i) q e in
    let same : p * n ≡ q = let y = t.1 in cc in
    let low = ltb-true (p * n) (2 ^ 31) t.0 in
    omega arith
factor_below i p (negsuc n) q e = let z : ◌≡◌ {A = ℕ} 0 1 = cc in absurd (omega arith)

-- one dimension, then the others
pub product_more : (ds : List ArrayDimension) (i p : ℕ) (d : ArrayDimension) → i < length ds → product_of i p (drop i ds) ≡ then (factor i p (get_or ds i d).len) (λ q. product_of (i + 1) q (drop (i + 1) ds))
product_more ds i p d h = ap (product_of i p) (drop-cons ds i d h ∙ ap (λ n. get_or ds i d ∷ drop n ds) (sym (add-one i)))

-- what the encoder writes for the items as a call sees them
abbrev kept : Bool → Kept
kept b = cond b (Ok tt) (Err (fault TooGreat 0))

after_items : (o : Option Fault) (b : Bool) (ws : List ℕ) → then (refused_or o (kept b)) (λ _. Ok ws) ≡ refused_or o (cond b (Ok ws) (Err (fault TooGreat 0)))
after_items None true ws = refl
after_items None false ws = refl
after_items (Some f) b ws = refl

content_by : (k : Kept) (o : Option Fault) (b : Bool) (ws : List ℕ) → then (then k (λ _. refused_or o (kept b))) (λ _. Ok ws) ≡ then k (λ _. refused_or o (cond b (Ok ws) (Err (fault TooGreat 0))))
content_by (Ok tt) o b ws = after_items o b ws
content_by (Err f) o b ws = refl

pub content_is : (oid : ℕ) (ds : List ArrayDimension) (is : List Item) → array_content oid ds is ≡ then (dimensions_fit ds (length is)) (λ _. array_encoding ds oid (map above is))
content_is oid ds is =
    content_by (dimensions_fit ds (length is)) _ (ltb (length ds) (2 ^ 31)) (array_layout ds oid (values is))
    ∙ ap (λ o. then (dimensions_fit ds (length is)) (λ _. refused_or o (cond (ltb (length ds) (2 ^ 31)) (Ok (array_layout ds oid (values is))) (Err (fault TooGreat 0))))) (sym (fault_raised is))
    ∙ ap (λ vs. then (dimensions_fit ds (length is)) (λ _. refused_or (first_fault (map above is)) (cond (ltb (length ds) (2 ^ 31)) (Ok (array_layout ds oid vs)) (Err (fault TooGreat 0))))) (sym (values_raised is))

-- with dimensions that fit
pub content_fits : (oid n : ℕ) (ds : List ArrayDimension) (is : List Item) → n ≡ length is → Ok tt ≡ dimensions_fit ds n → array_content oid ds is ≡ array_encoding ds oid (map above is)
content_fits oid n ds is count e = content_is oid ds is ∙ ap (λ k. then k (λ _. array_encoding ds oid (map above is))) (ap (dimensions_fit ds) (sym count) ∙ sym e)
