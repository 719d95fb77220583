-- Hstore values and paths, as their encoders write them.
use Rattle.std.proofs.Common.{◌≡◌, ℕ, ◌^◌, Bool, true, false, cond, ltb, List, length, Ok, Err, Result, sym, refl, ap, ◌∙◌, arith}
use Rattle.fault.specs.declared.Fault.{Fault}
use Rattle.fault.specs.declared.Rule.TheVariants.{TooGreat}
use Rattle.fault.specs.Faults.{fault}
use Rattle.double.specs.declared.point.Point.{Point}
use Rattle.hstore.specs.declared.entry.HstoreEntry.{HstoreEntry}
use Rattle.hstore.specs.Encoding.{keys_there, entry_texts, hstore_encoding}
use Rattle.hstore.specs.Layout.{Entry, hstore_layout}
use Rattle.array.specs.Encoding.{counted}
use Rattle.path.specs.Layout.{path_layout, path_encoding}
use Rattle.geometry.proofs.Points.{length_points}
use Rattle.std.proofs.lemmas.Bool.{ltb-true}
use Rattle.texts.specs.Places.{Bytes}
use Rattle.wire.specs.Encoding.{told}
use Rattle.wire.specs.Words.{then}
use Rattle.content.specs.Encoders.{hstore_content, path_content}
use Rattle.content.specs.Rules.{Kept}

abbrev kept : Bool → Kept
kept b = cond b (Ok tt) (Err (fault TooGreat 0))

-- a count that is tested before a layout is the test of its encoding
counted_by : (b : Bool) (ws : List ℕ) → then (kept b) (λ _. Ok ws) ≡ cond b (Ok ws) (Err (fault TooGreat 0))
counted_by true ws = refl
counted_by false ws = refl

texts_by : (k : Kept) (r : Result (List Entry) Fault) (b : Bool) → then (then k (λ _. then r (λ xs. then (kept b) (λ _. Ok xs)))) (λ xs. Ok (hstore_layout xs)) ≡ then k (λ _. then r (λ xs. cond b (Ok (hstore_layout xs)) (Err (fault TooGreat 0))))
texts_by (Err f) r b = refl
texts_by (Ok tt) (Err f) b = refl
texts_by (Ok tt) (Ok xs) true = refl
texts_by (Ok tt) (Ok xs) false = refl

pub hstore_is : (ps : Bytes) (es : List HstoreEntry) → hstore_content ps es ≡ hstore_encoding ps es
hstore_is ps es = texts_by (keys_there 0 es) (entry_texts ps 0 es) (ltb (length es) (2 ^ 31))

pub path_is : (closed : Bool) (ps : List Point) → path_content closed ps ≡ path_encoding closed ps
path_is closed ps = counted_by (ltb (length ps) (2 ^ 31)) (path_layout closed ps)

size_by : (closed : Bool) (ps : List Point) (b : Bool) → ltb (length ps) (2 ^ 31) ≡ b → told (cond b (Ok (path_layout closed ps)) (Err (fault TooGreat 0))) ≡ counted (cond b (Ok (path_layout closed ps)) (Err (fault TooGreat 0)))
size_by closed ps true t = let few = ltb-true (length ps) (2 ^ 31) t in let long = length_points ps in ap Ok (omega arith)
size_by closed ps false t = refl

-- a path is never longer than a usize counts
pub path_counted : (closed : Bool) (ps : List Point) → told (path_encoding closed ps) ≡ counted (path_content closed ps)
path_counted closed ps = size_by closed ps (ltb (length ps) (2 ^ 31)) refl ∙ sym (ap counted (path_is closed ps))
