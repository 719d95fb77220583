-- What a layer answers is what reading to the end meets, whenever that holds of the level below.
use Rattle.std.proofs.Common.{◌≡◌, ℕ, zero, suc, ◌+◌, List, [], ◌∷◌, length, Some, None, Ok, Err, Result, sym, refl, ap, ◌∙◌, subst, arith}
use mathlib.Core.Path.{fun_ext}
use Rattle.fault.specs.declared.Fault.{Fault}
use Rattle.wire.specs.Cursor.{State, Reader, Answer, step, read_nullable}
use Rattle.wire.specs.Words.{Value, then}
use Rattle.array.specs.Recv.{Opened, array_recv, at_values}
use Rattle.range.specs.declared.bound.RangeBound.{RangeBound}
use Rattle.range.specs.declared.bound.RangeBound.TheVariants.{Inclusive, Exclusive, Unbounded}
use Rattle.range.specs.Layout.{bound}
use Rattle.range.specs.Recv.{Content, range_recv}
use Rattle.validator.specs.Reading.{Reading, Hands, null, accepted, refused, Walks, ends, breaks, stops, goes_on, ReadsArray, unopened, opened, ReadsSide, inclusive, exclusive, unbounded, ReadsRange, unread, empty, stopped, passed}
use Rattle.validator.specs.Verdicts.{Outcome, Verdict, from_below, handed, stepped, steps, to_end, array_verdict, side_handed, sides_handed, range_verdict}
use Rattle.validator.proofs.Walking.{took, to_end_on}
use Rattle.pile.specs.Piles.{Layer, arrays, ranges, layer_verdict, pile_verdict, layer_reading, pile_reading, By, ReadsExactly}

-- a verdict is what a reading meets, and reading meets nothing else
pub record Agrees (v : Verdict) (reading : Reading) : Type 0 where
  pub meets : (bs : List ℕ) → reading bs (v bs)
  pub only : (bs : List ℕ) (o : Outcome) → reading bs o → v bs ≡ o

module _ (below : Verdict) (reading : Reading) (agrees : Agrees below reading) where
  payload_meets : (at : ℕ) (p : List ℕ) (o : Outcome) → reading p o → Hands reading at (Some p) (from_below (at + 4) o)
  payload_meets at p (Ok tt) r = accepted r
  payload_meets at p (Err f) r = refused r

  hands_meets : (at : ℕ) (v : Value) → Hands reading at v (handed below at v)
  hands_meets at None = null
  hands_meets at (Some p) = payload_meets at p (below p) (agrees.meets p)

  hands_only : (at : ℕ) (v : Value) (o : Outcome) → Hands reading at v o → handed below at v ≡ o
  hands_only at _ _ null = refl
  hands_only at _ _ (accepted {p = p} r) = ap (from_below (at + 4)) (agrees.only p (Ok tt) r)
  hands_only at _ _ (refused {p = p} {f = f} r) = ap (from_below (at + 4)) (agrees.only p (Err f) r)

module _ {X : Type 0} (read : Reader X) (visit : ℕ → X → Outcome) (Part : ℕ → X → Outcome → Type 0) where
  module _ (meets : (at : ℕ) (x : X) → Part at x (visit at x)) where
    part_meets : (s t : State) (x : X) (rest : Outcome) → step read s ≡ (Ok (Some x), t) → Walks read Part t rest → (o : Outcome) → Part s.place x o → Walks read Part s (then o (λ _. rest))
    part_meets s t x rest e w (Ok tt) p = goes_on e p w
    part_meets s t x rest e w (Err f) p = stops e p

    walk_by : (n : ℕ) (s : State) → s.left ≡ n → ((t : State) → suc t.left ≡ n → Walks read Part t (to_end read visit t)) → (q : Answer X × State) → step read s ≡ q → Walks read Part s (stepped visit s.place q.0 (steps read visit n q.1))
    walk_by n s l more (Ok None, t) e = ends e
    walk_by n s l more (Err f, t) e = breaks e
    walk_by n s l more (Ok (Some x), t) e =
        let tk = took read s x (ap (λ q. q.0) e) in
        let fewer : suc t.left ≡ n = sym (ap (λ q. suc q.1.left) e) ∙ tk.left ∙ l in
        let rest = subst (λ m. Walks read Part t (steps read visit m t)) fewer (more t fewer) in
        part_meets s t x (steps read visit n t) e rest (visit s.place x) (meets s.place x)

    walks : (n : ℕ) (s : State) → s.left ≡ n → Walks read Part s (steps read visit (suc n) s)
    walks zero s l = walk_by zero s l (λ t e. absurd (omega arith)) (step read s) refl
    walks (suc n) s l = walk_by (suc n) s l (λ t e. let less : t.left ≡ n = omega arith in subst (λ m. Walks read Part t (steps read visit (suc m) t)) (sym less) (walks n t less)) (step read s) refl

    pub walk_meets : (s : State) → Walks read Part s (to_end read visit s)
    walk_meets s = walks s.left s refl

  module _ (only : (at : ℕ) (x : X) (o : Outcome) → Part at x o → visit at x ≡ o) where
    pub walk_only : {s : State} {o : Outcome} → Walks read Part s o → to_end read visit s ≡ o
    walk_only {s} (ends e) = ap (λ q. stepped visit s.place q.0 (steps read visit s.left q.1)) e
    walk_only {s} (breaks e) = ap (λ q. stepped visit s.place q.0 (steps read visit s.left q.1)) e
    walk_only {s} (stops {t = t} {x = x} {f = f} e p) =
        to_end_on read s x visit (ap (λ q. q.0) e) ∙ ap (λ r. then r (λ _. to_end read visit (step read s).1)) (only s.place x (Err f) p)
    walk_only {s} (goes_on {t = t} {x = x} e p w) =
        to_end_on read s x visit (ap (λ q. q.0) e) ∙ ap (λ r. then r (λ _. to_end read visit (step read s).1)) (only s.place x (Ok tt) p) ∙ ap (λ q. to_end read visit q.1) e ∙ walk_only w

module _ (below : Verdict) (reading : Reading) (agrees : Agrees below reading) where
  array_meets : (bs : List ℕ) (r : Result Opened Fault) → array_recv bs ≡ r → ReadsArray reading bs (then r (λ a. to_end read_nullable (handed below) (at_values a)))
  array_meets bs (Ok a) e = opened e (walk_meets read_nullable (handed below) (Hands reading) (hands_meets below reading agrees) (at_values a))
  array_meets bs (Err f) e = unopened e

  array_only : (bs : List ℕ) (o : Outcome) → ReadsArray reading bs o → array_verdict below bs ≡ o
  array_only bs _ (unopened e) = ap (λ r. then r (λ a. to_end read_nullable (handed below) (at_values a))) e
  array_only bs _ (opened {a = a} e w) = ap (λ r. then r (λ a. to_end read_nullable (handed below) (at_values a))) e ∙ walk_only read_nullable (handed below) (Hands reading) (hands_only below reading agrees) w

  pub array_agrees : Agrees (array_verdict below) (ReadsArray reading)
  array_agrees = record { meets = λ bs. array_meets bs (array_recv bs) refl; only = array_only }

  -- what becomes of a bound whose bytes begin at a place
  abbrev heard : ℕ → RangeBound Value → Outcome
  heard at (Inclusive v) = handed below at v
  heard at (Exclusive v) = handed below at v
  heard at Unbounded = Ok tt

  side_meets : (at : ℕ) (b : RangeBound Value) → ReadsSide reading at b (heard at b)
  side_meets at (Inclusive v) = inclusive (hands_meets below reading agrees at v)
  side_meets at (Exclusive v) = exclusive (hands_meets below reading agrees at v)
  side_meets at Unbounded = unbounded

  side_only : (at : ℕ) (b : RangeBound Value) (o : Outcome) → ReadsSide reading at b o → heard at b ≡ o
  side_only at _ o (inclusive {v = v} h) = hands_only below reading agrees at v o h
  side_only at _ o (exclusive {v = v} h) = hands_only below reading agrees at v o h
  side_only at _ _ unbounded = refl

  side_is : (at : ℕ) (b : RangeBound Value) → side_handed below at b ≡ then (heard at b) (λ _. Ok (at + length (bound b)))
  side_is at (Inclusive v) = refl
  side_is at (Exclusive v) = refl
  side_is at Unbounded = ap Ok (omega arith)

  both_is : (l u : Outcome) (at : ℕ) (n : ℕ → ℕ) (second : ℕ → Outcome) → then (then l (λ _. Ok at)) (λ k. then (then (second k) (λ _. Ok (n k))) (λ _. Ok tt)) ≡ then l (λ _. second at)
  both_is (Ok tt) u at n second = last (second at)
    where
      last : (o : Outcome) → then (then o (λ _. Ok (n at))) (λ _. Ok tt) ≡ o
      last (Ok tt) = refl
      last (Err f) = refl
  both_is (Err f) u at n second = refl

  sides_are : (l u : RangeBound Value) → sides_handed below (Some (l, u)) ≡ then (heard 1 l) (λ _. heard (1 + length (bound l)) u)
  sides_are l u =
      ap (λ r. then r (λ at. then (side_handed below at u) (λ _. Ok tt))) (side_is 1 l)
      ∙ ap (λ f. then (then (heard 1 l) (λ _. Ok (1 + length (bound l)))) (λ at. then (f at) (λ _. Ok tt))) (fun_ext (λ at. side_is at u))
      ∙ both_is (heard 1 l) (Ok tt) (1 + length (bound l)) (λ at. at + length (bound u)) (λ at. heard at u)

  bounds_meet : (bs : List ℕ) (l u : RangeBound Value) → range_recv bs ≡ Ok (Some (l, u)) → (o : Outcome) → ReadsSide reading 1 l o → ReadsRange reading bs (then o (λ _. heard (1 + length (bound l)) u))
  bounds_meet bs l u e (Ok tt) side = passed e side (side_meets (1 + length (bound l)) u)
  bounds_meet bs l u e (Err f) side = stopped e side

  range_meets : (bs : List ℕ) (r : Result Content Fault) → range_recv bs ≡ r → ReadsRange reading bs (then r (sides_handed below))
  range_meets bs (Ok None) e = empty e
  range_meets bs (Ok (Some (l, u))) e = subst (ReadsRange reading bs) (sym (sides_are l u)) (bounds_meet bs l u e (heard 1 l) (side_meets 1 l))
  range_meets bs (Err f) e = unread e

  range_only : (bs : List ℕ) (o : Outcome) → ReadsRange reading bs o → range_verdict below bs ≡ o
  range_only bs _ (unread e) = ap (λ r. then r (sides_handed below)) e
  range_only bs _ (empty e) = ap (λ r. then r (sides_handed below)) e
  range_only bs _ (stopped {l = l} {u = u} {f = f} e side) =
      ap (λ r. then r (sides_handed below)) e ∙ sides_are l u ∙ ap (λ r. then r (λ _. heard (1 + length (bound l)) u)) (side_only 1 l (Err f) side)
  range_only bs o (passed {l = l} {u = u} e side last) =
      ap (λ r. then r (sides_handed below)) e ∙ sides_are l u ∙ ap (λ r. then r (λ _. heard (1 + length (bound l)) u)) (side_only 1 l (Ok tt) side) ∙ side_only (1 + length (bound l)) u o last

  pub range_agrees : Agrees (range_verdict below) (ReadsRange reading)
  range_agrees = record { meets = λ bs. range_meets bs (range_recv bs) refl; only = range_only }

layer_agrees : (l : Layer) (v : Verdict) (reading : Reading) → Agrees v reading → Agrees (layer_verdict l v) (layer_reading l reading)
layer_agrees arrays v reading agrees = array_agrees v reading agrees
layer_agrees ranges v reading agrees = range_agrees v reading agrees

-- at every depth, over every bottom
pub pile_agrees : (ls : List Layer) (bottom : Verdict) → Agrees (pile_verdict ls bottom) (pile_reading ls (By bottom))
pile_agrees [] bottom = record { meets = λ bs. refl; only = λ bs o e. e }
pile_agrees (l ∷ ls) bottom = layer_agrees l (pile_verdict ls bottom) (pile_reading ls (By bottom)) (pile_agrees ls bottom)

pub reads_exactly : (v : Verdict) (bs : List ℕ) → ReadsExactly v bs
reads_exactly v bs ls bottom is o =
    let a = pile_agrees ls bottom in
    (λ e. subst (pile_reading ls (By bottom) bs) (sym (is bs) ∙ e) (a.meets bs), λ r. is bs ∙ a.only bs o r)
