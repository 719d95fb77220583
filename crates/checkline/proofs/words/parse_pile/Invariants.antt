use Rattle.std.proofs.Common.{◌≡◌, ◌-◌, vec_items}
use Rattle.checkline.specs.Spelled.{onto, most_layers, pile_within, pile_in}
use Rattle.checkline.proofs.words.parse_pile.Given as goal

-- what is left spells the layers still to come and the bottom
abbrev pub invariant-loop : goal.invariant-loop
invariant-loop l = onto (vec_items l.layers) (pile_within (most_layers - l.counter) l.rest) ≡ pile_in l.word
