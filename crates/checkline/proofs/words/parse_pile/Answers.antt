use Rattle.std.proofs.Common.{◌-◌, vec_items, sym, ap, ◌∙◌, arith}
use Rattle.checkline.specs.Spelled.{most_layers, onto}
use Rattle.checkline.proofs.Spelling.{layer_more, no_layer}
use Rattle.checkline.proofs.words.parse_pile.Goals as goal

pub returns-in-None : goal.returns-in-None
returns-in-None c =
    c.over_bottom.ensures
    ∙ ap (onto (vec_items c.loop.layers)) (sym (no_layer (most_layers - c.loop.counter) c.loop.rest.now (sym c.in-None.ensures)))
    ∙ c.loop.invariant

pub loop-preserved : goal.loop-preserved
loop-preserved c =
    layer_more (vec_items c.loop.layers) c.in-Some.layer c.loop.counter c.loop.rest.now c.in-Some.inside.now (omega arith)
    (sym c.in-Some.ensures) c.in_ok-push-in-Some.ensures.items c.loop.invariant
