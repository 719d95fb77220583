-- What fills a column reads back as what the column holds.
use Rattle.std.proofs.Common.{◌≡◌, ℕ, suc, ◌+◌, ◌*◌, ◌^◌, ◌<◌, Bool, true, false, cond, T, eqb, ltb, leb, List, [], ◌∷◌, length, ℤ, pos, negsuc, Some, None, Ok, Err, Option, Result, sym, refl, ap, ◌∙◌, subst, arith, w32}
use lib.Ieee.{binary64}
use lib.Ieee.Bits.{of_bits-to_bits, to_bits-lt}
use Rattle.std.proofs.lemmas.Int.{to_z_pos}
use Rattle.std.proofs.lemmas.Bool.{cond-false, eqb-true, leb-true, ltb-true, ne_eqb}
use Rattle.std.specs.Option.{option_map}
use Rattle.fault.specs.declared.Fault.{Fault}
use Rattle.fault.specs.declared.Rule.TheVariants.{Dimensions}
use Rattle.fault.specs.Faults.{fault, raise}
use Rattle.array.specs.declared.dimension.ArrayDimension.{ArrayDimension}
use Rattle.array.specs.Laws.{Sound, times, product, element_count}
use Rattle.array.proofs.Written as Array-written
use Rattle.content.specs.Calls.{Content, null, column, array, range, empty_range, hstore, varbit, point, box, path, inet, held}
use Rattle.content.specs.Held.{Held, no_value, an_item, an_array, a_range, the_empty_range, an_hstore, a_varbit, a_point, a_box, a_path, an_inet, value_of}
use Rattle.rows.specs.Windows.{above}
use Rattle.rows.proofs.Windowing.{above_ok}
use Rattle.content.specs.Rules.{few, factor, product_of, dimensions_fit, array_rule, range_bounds, hstore_entries, bytes_fit, varbit_rule, inet_rule}
use Rattle.double.specs.declared.point.Box.{Box}
use Rattle.double.specs.Doubles.{double_word, word_double}
use Rattle.double.specs.Points as points
use Rattle.geometry.specs.Laws.{Doubles}
use Rattle.geometry.specs.Layout.{box_layout}
use Rattle.geometry.specs.Recv.{box_recv}
use Rattle.geometry.proofs.Laws.{point_read, point_back, box_words}
use Rattle.hstore.specs.Encoding.{keys_there, entry_texts}
use Rattle.hstore.proofs.Laws as hstore_laws
use Rattle.inet.specs.Layout.{widest}
use Rattle.inet.proofs.Laws as inet_laws
use Rattle.path.proofs.Laws as path_laws
use Rattle.range.specs.Encoding.{bound_item}
use Rattle.range.proofs.Layouts as range_laws
use Rattle.serializer.specs.Lists.{item_at, values, first_fault, refused_or}
use Rattle.varbit.specs.Layout.{begun, varbit_layout}
use Rattle.varbit.specs.Recv.{varbit_recv}
use Rattle.varbit.proofs.Laws.{recv_is}
use Rattle.wire.specs.Items.{Item}
use Rattle.wire.specs.Words.{then, natural, count_at}
use Rattle.wire.proofs.Nullables.{i32_back}
use Rattle.wire.proofs.Taking.{then_ok, passed}
use Rattle.agreement.specs.Reading.{ReadsAs}
use Rattle.agreement.specs.Runs.{TypedContent}

-- a count that fits
few_ok : (n : ℕ) (u : Unit {0}) → few n ≡ Ok u → n < 2 ^ 31
few_ok n u e = ltb-true n (2 ^ 31) (passed (ltb n (2 ^ 31)) (Ok tt) _ u (sym e)).0

-- the products of the rule are those of the law
factor_times : (i p : ℕ) (z : ℤ) (q : ℕ) → factor i p z ≡ Ok q → times p z ≡ Some q
factor_times i p (pos n) q e = go (ltb (p * n) (2 ^ 31)) e
  where
    go : (b : Bool) → cond b (Ok (p * n)) (Err (fault Dimensions i)) ≡ Ok q → cond b (Some (p * n)) None ≡ Some q
    go true f = cc
    go false f = let z : ◌≡◌ {A = ℕ} 0 1 = cc in absurd (omega arith)
factor_times i p (negsuc n) q e = let z : ◌≡◌ {A = ℕ} 0 1 = cc in absurd (omega arith)

same_product : (ds : List ArrayDimension) (i p q : ℕ) → product_of i p ds ≡ Ok q → product (Some p) ds ≡ Some q
same_product [] i p q e = cc
same_product (d ∷ ds) i p q e =
    let t = then_ok (factor i p d.len) _ q e in
    ap (λ o. product o ds) (factor_times i p d.len t.0 t.1) ∙ same_product ds (i + 1) t.0 q t.2

fit_count : (ds : List ArrayDimension) (n : ℕ) (u : Unit {0}) → dimensions_fit ds n ≡ Ok u → element_count ds ≡ Some n
fit_count [] n u e =
    let t = passed (eqb 0 n) (Ok tt) _ u (sym e) in
    ap Some (eqb-true 0 n t.0)
fit_count (d ∷ ds) n u e =
    let t = then_ok (product_of 0 1 (d ∷ ds)) _ u e in
    let made = cond (eqb (length (d ∷ ds)) 0) 0 t.0 in
    let c = passed (eqb made n) (Ok tt) _ u (sym t.2) in
    let is : made ≡ t.0 = cond-false _ _ _ (ne_eqb (length (d ∷ ds)) 0 (λ z. omega arith)) in
    same_product (d ∷ ds) 0 1 t.0 t.1 ∙ ap Some (sym is ∙ eqb-true made n c.0)

not_refused : {X : Type 0} (o : Option Fault) (r : Result X Fault) (x : X) → refused_or (option_map raise o) r ≡ Ok x → (o ≡ None) × (r ≡ Ok x)
not_refused None r x e = (refl, e)
not_refused (Some f) r x e = let z : ◌≡◌ {A = ℕ} 0 1 = cc in absurd (omega arith)

-- without faults every item has a value
all_values : (is : List Item) → first_fault is ≡ None → length (values is) ≡ length is
all_values [] e = refl
all_values (Ok v ∷ is) e = ap suc (all_values is e)
all_values (Err f ∷ is) e = let z : ◌≡◌ {A = ℕ} 0 1 = cc in absurd (omega arith)

array_reads : (oid : ℕ) (ds : List ArrayDimension) (is : List Item) (u : Unit {0}) → TypedContent (array oid ds is) → array_rule ds is ≡ Ok u → ReadsAs (an_array oid ds (values is)) (value_of (an_array oid ds (values is)))
array_reads oid ds is u typed e =
    let fit = then_ok (dimensions_fit ds (length is)) _ u e in
    let n = not_refused (first_fault is) (few (length ds)) u fit.2 in
    let count = fit_count ds (length is) fit.0 fit.1 in
    let sound : Sound ds oid (values is) = record { words = typed.1; few = few_ok (length ds) u n.1; typed = typed.0; fits = count ∙ ap Some (sym (all_values is n.0)) } in
    Array-written.written_back ds oid (values is) (Array-written.all_short is typed.2) sound

range_reads : (lower upper : _) (is : List Item) (h : Held) → TypedContent (range lower upper is) → held (range lower upper is) ≡ Ok h → ReadsAs h (value_of h)
range_reads lower upper is h short e =
    let t = then_ok (range_bounds lower upper is) (λ p. Ok (a_range p.0 p.1)) h e in
    let same : a_range t.0.0 t.0.1 ≡ h = let q = t.2 in cc in
    let both = above_ok (then (bound_item is lower) (λ l. then (bound_item is upper) (λ u. Ok (l, u)))) t.0 t.1 in
    let l = then_ok (bound_item is lower) (λ l. then (bound_item is upper) (λ u. Ok (l, u))) t.0 both in
    let u = then_ok (bound_item is upper) (λ u. Ok (l.0, u)) t.0 l.2 in
    let pair : ◌≡◌ (l.0, u.0) t.0 = let q = u.2 in cc in
    let low : l.0 ≡ t.0.0 = ap (λ q. q.0) pair in
    let up : u.0 ≡ t.0.1 = ap (λ q. q.1) pair in
    subst (λ g. ReadsAs g (value_of g)) same (range_laws.written_back is short lower upper t.0.0 t.0.1 (l.1 ∙ ap Ok low) (u.1 ∙ ap Ok up))

varbit_reads : (bits : ℕ) (bytes : List ℕ) (u : Unit {0}) → varbit_rule bits (length bytes) ≡ Ok u → varbit_recv (varbit_layout bits bytes) ≡ Ok (bits, bytes)
varbit_reads bits bytes u e =
    let t = then_ok (bytes_fit bits (length bytes)) _ u e in
    let small = few_ok bits u t.2 in
    let right = eqb-true (length bytes) (begun bits) (passed (eqb (length bytes) (begun bits)) (Ok tt) _ t.0 (sym t.1)).0 in
    let count : count_at (varbit_layout bits bytes) 0 ≡ Ok bits = ap (λ r. then r (natural 0)) (i32_back [] bytes bits (omega arith) ∙ ap Ok (to_z_pos w32 bits small)) in
    recv_is (varbit_layout bits bytes) bits (sym count) (omega arith)

box_reads : (b : Box) → Doubles b.upper_right → Doubles b.lower_left → box_recv (box_layout b) ≡ Ok b
box_reads b d f =
    let p = b.upper_right in
    let q = b.lower_left in
    let px = subst T (sym d.0) tt in
    let py = subst T (sym d.1) tt in
    let qx = subst T (sym f.0) tt in
    let qy = subst T (sym f.1) tt in
    box_words (double_word p.x) (double_word p.y) (double_word q.x) (double_word q.y) (to_bits-lt binary64 p.x px) (to_bits-lt binary64 p.y py) (to_bits-lt binary64 q.x qx) (to_bits-lt binary64 q.y qy)
    ∙ ap (λ c. Ok (points.corners c (points.point (word_double (double_word q.x)) (word_double (double_word q.y))))) (point_back p (double_word p.x) (double_word p.y) (of_bits-to_bits binary64 p.x px) (of_bits-to_bits binary64 p.y py))
    ∙ ap (λ c. Ok (points.corners p c)) (point_back q (double_word q.x) (double_word q.y) (of_bits-to_bits binary64 q.x qx) (of_bits-to_bits binary64 q.y qy))

-- what a call is to file reads as what the column holds
pub held_reads : (c : Content) (h : Held) → TypedContent c → held c ≡ Ok h → ReadsAs h (value_of h)
held_reads null h typed e = let same : no_value ≡ h = cc in subst (λ g. ReadsAs g (value_of g)) same refl
held_reads (column is k) h typed e =
    let t = then_ok (above (item_at is k)) (λ v. Ok (an_item v)) h e in
    let same : an_item t.0 ≡ h = let q = t.2 in cc in
    subst (λ g. ReadsAs g (value_of g)) same refl
held_reads (array oid ds is) h typed e =
    let t = then_ok (array_rule ds is) (λ _. Ok (an_array oid ds (values is))) h e in
    let same : an_array oid ds (values is) ≡ h = let q = t.2 in cc in
    subst (λ g. ReadsAs g (value_of g)) same (array_reads oid ds is t.0 typed t.1)
held_reads (range lower upper is) h typed e = range_reads lower upper is h typed e
held_reads empty_range h typed e = let same : the_empty_range ≡ h = cc in subst (λ g. ReadsAs g (value_of g)) same refl
held_reads (hstore ps es) h typed e =
    let t = then_ok (hstore_entries ps es) (λ xs. Ok (an_hstore xs)) h e in
    let same : an_hstore t.0 ≡ h = let q = t.2 in cc in
    let k = then_ok (keys_there 0 es) _ t.0 t.1 in
    let x = then_ok (entry_texts ps 0 es) _ t.0 k.2 in
    let n = then_ok (few (length es)) (λ _. Ok x.0) t.0 x.2 in
    let is : x.0 ≡ t.0 = let q = n.2 in cc in
    subst (λ g. ReadsAs g (value_of g)) same (hstore_laws.written_back ps es t.0 (x.1 ∙ ap Ok is) (few_ok (length es) n.0 n.1))
held_reads (varbit bits bytes) h typed e =
    let t = then_ok (varbit_rule bits (length bytes)) (λ _. Ok (a_varbit bits bytes)) h e in
    let same : a_varbit bits bytes ≡ h = let q = t.2 in cc in
    subst (λ g. ReadsAs g (value_of g)) same (varbit_reads bits bytes t.0 t.1)
held_reads (point p) h typed e = let same : a_point p ≡ h = cc in subst (λ g. ReadsAs g (value_of g)) same (point_read p typed)
held_reads (box b) h typed e = let same : a_box b ≡ h = cc in subst (λ g. ReadsAs g (value_of g)) same (box_reads b typed.0 typed.1)
held_reads (path closed ps) h typed e =
    let t = then_ok (few (length ps)) (λ _. Ok (a_path closed ps)) h e in
    let same : a_path closed ps ≡ h = let q = t.2 in cc in
    subst (λ g. ReadsAs g (value_of g)) same (path_laws.written_back closed ps (few_ok (length ps) t.0 t.1) typed)
held_reads (inet a mask) h typed e =
    let t = then_ok (inet_rule a mask) (λ _. Ok (an_inet a mask)) h e in
    let same : an_inet a mask ≡ h = let q = t.2 in cc in
    let low = leb-true mask (widest a) (passed (leb mask (widest a)) (Ok tt) _ t.0 (sym t.1)).0 in
    subst (λ g. ReadsAs g (value_of g)) same (inet_laws.reads_back a mask typed low 0)
