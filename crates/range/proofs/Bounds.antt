-- A bound, there and back, whatever the tag bits of its side.
use Rattle.std.proofs.Common.{◌≡◌, ℕ, ◌+◌, Bool, true, false, cond, List, [], ◌++◌, length, take, drop, Ok, Err, Result, sym, refl, ap, ◌∙◌, subst, arith}
use Rattle.std.proofs.lemmas.List.{take-append-drop, drop-drop}
use Rattle.std.proofs.lemmas.Bool.{cond-true, cond-false}
use Rattle.fault.specs.declared.Fault.{Fault}
use Rattle.wire.specs.Bytes.{Octets}
use Rattle.wire.specs.Cursor.{Nullable, sized}
use Rattle.wire.specs.Items.{nullable}
use Rattle.wire.specs.Words.{Value, then, value_at}
use Rattle.wire.proofs.Nullables.{nullable_forms}
use Rattle.wire.proofs.Taking.{then_ok}
use Rattle.range.specs.declared.bound.RangeBound.{RangeBound}
use Rattle.range.specs.declared.bound.RangeBound.TheVariants.{Inclusive, Exclusive, Unbounded}
use Rattle.range.specs.Laws.{Kind, BoundForm}
use Rattle.range.specs.Recv.{has, kind, bound_at}

-- a value with its number of bytes, as a bound with the place behind it
abbrev placed : Bool → ℕ → Value × ℕ → Result (RangeBound Value × ℕ) Fault
placed inclusive at p = Ok (kind inclusive p.0, at + p.1)

sized_on : (r : Result Value Fault) (at : ℕ) (b : Bool) → then r (λ v. Ok (kind b v, at + length (nullable v))) ≡ then (sized (λ v. length (nullable v)) r) (placed b at)
sized_on (Ok v) at b = refl
sized_on (Err f) at b = refl

-- a value that was read, and the rest behind it
value_formed : (bs : List ℕ) (at : ℕ) (v : Value) → Octets bs → value_at bs at ≡ Ok v → let n = length (nullable v) in Nullable v (take n (drop at bs)) × (drop at bs ≡ take n (drop at bs) ++ drop (at + n) bs)
value_formed bs at v small e =
    let n = length (nullable v) in
    let f = nullable_forms.formed bs at n v small (ap (sized (λ u. length (nullable u))) e) in
    (f.1, sym (take-append-drop n (drop at bs)) ∙ ap (λ l. take n (drop at bs) ++ l) (drop-drop n at bs))

module _ (tag inclusive unbounded : ℕ) where
  value_reads : (pre e rest : List ℕ) (v : Value) (b : Bool) → has unbounded tag ≡ false → has inclusive tag ≡ b → Nullable v e → bound_at tag inclusive unbounded (pre ++ (e ++ rest)) (length pre) ≡ Ok (kind b v, length pre + length e)
  value_reads pre e rest v b bounded is form =
      cond-false _ _ _ bounded
      ∙ sized_on (value_at (pre ++ (e ++ rest)) (length pre)) (length pre) (has inclusive tag)
      ∙ ap (λ r. then r (placed (has inclusive tag) (length pre))) (nullable_forms.reads pre e rest v form)
      ∙ ap (λ x. placed x (length pre) (v, length e)) is

  -- a bound that stands behind others, in any of its forms
  pub bound_reads : (pre e rest : List ℕ) (b : RangeBound Value) → Kind inclusive unbounded tag b → BoundForm b e → bound_at tag inclusive unbounded (pre ++ (e ++ rest)) (length pre) ≡ Ok (b, length pre + length e)
  bound_reads pre e rest (Inclusive v) k form = value_reads pre e rest v true k.0 k.1 form
  bound_reads pre e rest (Exclusive v) k form = value_reads pre e rest v false k.0 k.1 form
  bound_reads pre e rest Unbounded k form = cond-true _ _ _ k ∙ ap (λ m. Ok (Unbounded, m)) (omega (arith, ap length form))

  -- a bound that was read, and its bytes
  pub record Formed (bs : List ℕ) (at : ℕ) (p : RangeBound Value × ℕ) : Type 0 where
    pub is : Kind inclusive unbounded tag p.0
    pub bytes : List ℕ
    pub form : BoundForm p.0 bytes
    pub here : drop at bs ≡ bytes ++ drop p.1 bs

  value_kind : (b : Bool) (v : Value) (e : List ℕ) → has unbounded tag ≡ false → has inclusive tag ≡ b → Nullable v e → Kind inclusive unbounded tag (kind b v) × BoundForm (kind b v) e
  value_kind true v e bounded is form = ((bounded, is), form)
  value_kind false v e bounded is form = ((bounded, is), form)

  bound_cases : (bs : List ℕ) (at : ℕ) (p : RangeBound Value × ℕ) (none b : Bool) → Octets bs → has unbounded tag ≡ none → has inclusive tag ≡ b
      → cond none (Ok (Unbounded, at)) (then (value_at bs at) (λ v. Ok (kind b v, at + length (nullable v)))) ≡ Ok p → Formed bs at p
  bound_cases bs at p true b small without is e =
      let same : ◌≡◌ {A = RangeBound Value × ℕ} (Unbounded, at) p = cc in
      subst (λ q. Formed bs at q) same (record { is = without; bytes = []; form = refl; here = refl })
  bound_cases bs at p false b small bounded is e =
      let t = then_ok (value_at bs at) (λ v. Ok (kind b v, at + length (nullable v))) p e in
      let n = length (nullable t.0) in
      let f = value_formed bs at t.0 small t.1 in
      let k = value_kind b t.0 (take n (drop at bs)) bounded is f.0 in
      let given = t.2 in
      let same : ◌≡◌ {A = RangeBound Value × ℕ} (kind b t.0, at + n) p = cc in
      subst (λ q. Formed bs at q) same (record { is = k.0; bytes = take n (drop at bs); form = k.1; here = f.1 })

  pub bound_formed : (bs : List ℕ) (at : ℕ) (p : RangeBound Value × ℕ) → Octets bs → bound_at tag inclusive unbounded bs at ≡ Ok p → Formed bs at p
  bound_formed bs at p small e = bound_cases bs at p (has unbounded tag) (has inclusive tag) small refl refl e
