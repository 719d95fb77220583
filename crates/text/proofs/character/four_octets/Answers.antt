use Rattle.std.proofs.Common.{◌≡◌, ◌∷◌, true, Decides, sym, ◌∙◌, subst, arith}
use Rattle.std.proofs.lemmas.Nat.{and_mask}
use Rattle.std.proofs.lemmas.Bool.{both_ways}
use Rattle.text.specs.Octets.{Tail, Shortest}
use Rattle.text.proofs.Rows.{of_four, told_four}
use Rattle.text.proofs.character.four_octets.Goals as goal
use Rattle.text.proofs.character.four_octets.Goals.{then-is_tail, else-is_tail, then-is_tail-2, else-is_tail-2}

pub returns-then-is_tail-3 : goal.returns-then-is_tail-3
returns-then-is_tail-3 c rest =
    let value : c.with_tail-value.result ≡ of_four c.args.first c.args.second c.args.third c.args.fourth = omega (arith, and_mask c.args.first 3) in
    let w = subst (λ v. Decides c.is_shortest_scalar.result (Shortest 0x10000 v)) value c.is_shortest_scalar.ensures in
    let tails : c.if-is_tail.value ≡ true → Tail c.args.second × Tail c.args.third = λ e. elim c.if-is_tail.branch [
      | then-is_tail w ↦ (c.is_tail.ensures.0 w.if-is_tail.true, w.is_tail-then-is_tail.ensures.0 (sym w.value-is ∙ e))
      | else-is_tail w ↦ absurd (both_ways c.if-is_tail.value (w.value-is ∙ w.if-is_tail.false) e)
    ] in
    let all : (Tail c.args.second × Tail c.args.third) × Tail c.args.fourth = elim c.if-is_tail-2.branch [
      | then-is_tail-2 w ↦ (tails w.if-is_tail-2.true, w.is_tail-then-is_tail-2.ensures.0 (sym w.value-is ∙ c.if-is_tail-3.true))
      | else-is_tail-2 w ↦ absurd (both_ways c.if-is_tail-2.value (w.value-is ∙ w.if-is_tail-2.false) c.if-is_tail-3.true)
    ] in
    told_four (c.args.first ∷ c.args.second ∷ c.args.third ∷ c.args.fourth ∷ rest) _ c.requires (omega arith) (
      (λ e. record {
        lead = c.requires;
        second = all.0.0;
        third = all.0.1;
        fourth = all.1;
        shortest = w.0 e;
      }),
      λ t. w.1 t.shortest,
    )

pub returns-else-is_tail-3 : goal.returns-else-is_tail-3
returns-else-is_tail-3 c rest =
    let tails : Tail c.args.second → Tail c.args.third → c.if-is_tail.value ≡ true = λ s t. elim c.if-is_tail.branch [
      | then-is_tail w ↦ w.value-is ∙ w.is_tail-then-is_tail.ensures.1 t
      | else-is_tail w ↦ absurd (both_ways c.is_tail.result w.if-is_tail.false (c.is_tail.ensures.1 s))
    ] in
    told_four (c.args.first ∷ c.args.second ∷ c.args.third ∷ c.args.fourth ∷ rest) _ c.requires (omega arith) (
      (λ e. absurd (both_ways c.if-is_tail-2.value c.if-is_tail-3.false e)),
      λ t. elim c.if-is_tail-2.branch [
        | then-is_tail-2 w ↦ w.value-is ∙ w.is_tail-then-is_tail-2.ensures.1 t.fourth
        | else-is_tail-2 w ↦ absurd (both_ways c.if-is_tail.value w.if-is_tail-2.false (tails t.second t.third))
      ],
    )
