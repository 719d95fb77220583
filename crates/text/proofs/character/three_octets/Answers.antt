use Rattle.std.proofs.Common.{◌≡◌, ◌∷◌, Decides, sym, ◌∙◌, subst, arith}
use Rattle.std.proofs.lemmas.Nat.{and_mask}
use Rattle.std.proofs.lemmas.Bool.{both_ways}
use Rattle.text.specs.Octets.{Tail, Shortest}
use Rattle.text.proofs.Rows.{of_three, told_three}
use Rattle.text.proofs.character.three_octets.Goals as goal
use Rattle.text.proofs.character.three_octets.Goals.{then-is_tail, else-is_tail}

pub returns-then-is_tail-2 : goal.returns-then-is_tail-2
returns-then-is_tail-2 c rest =
    let value : c.with_tail-value.result ≡ of_three c.args.first c.args.second c.args.third = omega (arith, and_mask c.args.first 4) in
    let w = subst (λ v. Decides c.is_shortest_scalar.result (Shortest 0x800 v)) value c.is_shortest_scalar.ensures in
    let tails : Tail c.args.second × Tail c.args.third = elim c.if-is_tail.branch [
      | then-is_tail w ↦ (c.is_tail.ensures.0 w.if-is_tail.true, w.is_tail-then-is_tail.ensures.0 (sym w.value-is ∙ c.if-is_tail-2.true))
      | else-is_tail w ↦ absurd (both_ways c.if-is_tail.value (w.value-is ∙ w.if-is_tail.false) c.if-is_tail-2.true)
    ] in
    told_three (c.args.first ∷ c.args.second ∷ c.args.third ∷ rest) _ c.requires (omega arith) (
      (λ e. record {
        lead = c.requires;
        second = tails.0;
        third = tails.1;
        shortest = w.0 e;
      }),
      λ t. w.1 t.shortest,
    )

pub returns-else-is_tail-2 : goal.returns-else-is_tail-2
returns-else-is_tail-2 c rest =
    told_three (c.args.first ∷ c.args.second ∷ c.args.third ∷ rest) _ c.requires (omega arith) (
      (λ e. absurd (both_ways c.if-is_tail.value c.if-is_tail-2.false e)),
      λ t. elim c.if-is_tail.branch [
        | then-is_tail w ↦ w.value-is ∙ w.is_tail-then-is_tail.ensures.1 t.third
        | else-is_tail w ↦ absurd (both_ways c.is_tail.result w.if-is_tail.false (c.is_tail.ensures.1 t.second))
      ],
    )
