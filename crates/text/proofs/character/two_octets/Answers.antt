use Rattle.std.proofs.Common.{◌≡◌, ◌∷◌, Decides, subst, arith}
use Rattle.std.proofs.lemmas.Nat.{and_mask}
use Rattle.std.proofs.lemmas.Bool.{both_ways}
use Rattle.text.specs.Octets.{Shortest}
use Rattle.text.proofs.Rows.{of_two, told_two}
use Rattle.text.proofs.character.two_octets.Goals as goal

pub returns-then-is_tail : goal.returns-then-is_tail
returns-then-is_tail c rest =
    let value : c.with_tail-value.result ≡ of_two c.args.first c.args.second = omega (arith, and_mask c.args.first 5) in
    let w = subst (λ v. Decides c.is_shortest_scalar.result (Shortest 0x80 v)) value c.is_shortest_scalar.ensures in
    told_two (c.args.first ∷ c.args.second ∷ rest) _ c.requires (omega arith) (
      (λ e. record {
        lead = c.requires;
        second = c.is_tail.ensures.0 c.if-is_tail.true;
        shortest = w.0 e;
      }),
      λ t. w.1 t.shortest,
    )

pub returns-else-is_tail : goal.returns-else-is_tail
returns-else-is_tail c rest =
    told_two (c.args.first ∷ c.args.second ∷ rest) _ c.requires (omega arith) ((λ e. absurd (both_ways c.is_tail.result c.if-is_tail.false e)), λ t. c.is_tail.ensures.1 t.second)
