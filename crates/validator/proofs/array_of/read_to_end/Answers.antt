use Rattle.std.proofs.Common.{◌≡◌, length, Some, Ok, sym, ap, ◌∙◌, arith}
use Rattle.std.specs.Option.{option_map}
use Rattle.wire.specs.Cursor.{State, step, read_nullable}
use Rattle.wire.specs.Items.{nullable}
use Rattle.wire.specs.Words.{value_at, then}
use Rattle.validator.specs.Places.{sized_ok, value_fits}
use Rattle.validator.specs.Verdicts.{handed, to_end}
use Rattle.validator.proofs.Walking.{took, to_end_on}
use Rattle.wire.specs.Cursors.{state, told_next}
use Rattle.validator.proofs.array_of.read_to_end.Goals as goal

-- the value that this turn's step gave
gave : (g : _) (c : goal.In-Some g) → (step read_nullable (state c.loop-value.values)).0 ≡ Ok (Some (option_map (λ x. x.now) c.in-Some.value))
gave g c = sym c.in_ok-value.ensures.answer ∙ ap (λ o. told_next (option_map (λ x. x.now)) (Ok o)) c.in-Some.is

pub hand_down-requires : goal.hand_down-requires
hand_down-requires g c =
    let s = state c.loop-value.values in
    let v = option_map (λ x. x.now) c.in-Some.value in
    let t = took read_nullable s v (gave g c) in
    let there = value_fits s.bytes s.place v (sized_ok (λ u. length (nullable u)) (value_at s.bytes s.place) v t.size t.part).0 in
    omega (arith, there, c.loop-value.invariant.0, ap length c.loop-value.invariant.1)

pub loop-value-preserved : goal.loop-value-preserved
loop-value-preserved g c =
    let s = state c.loop-value.values in
    let v = option_map (λ x. x.now) c.in-Some.value in
    let visit = handed (g.V.Validator.verdict c.args.below.now) in
    let e : (step read_nullable s).0 ≡ Ok (Some v) = sym c.in_ok-value.ensures.answer ∙ ap (λ o. told_next (option_map (λ x. x.now)) (Ok o)) c.in-Some.is in
    let t = took read_nullable s v e in
    let after = c.in_ok-value.ensures.after in
    let passed : visit s.place v ≡ Ok tt = ap (λ at. visit at v) (sym c.loop-value.invariant.0) ∙ sym c.in_ok-hand_down.ensures in
    (c.place-at-in-Some.ensures, ap (λ (x : State). x.bytes) after ∙ t.bytes ∙ c.loop-value.invariant.1, c.loop-value.invariant.2 ∙ to_end_on read_nullable s v visit e ∙ ap (λ r. then r (λ _. to_end read_nullable visit (step read_nullable s).1)) passed ∙ ap (to_end read_nullable visit) (sym after))
