use Rattle.std.proofs.Common.{◌+◌, drop, Err, sym, ap, ◌∙◌}
use Rattle.std.proofs.lemmas.List.{at_drop_more, at_drop_all}
use Rattle.hstore.specs.Encoding.{there, keys_there}
use Rattle.hstore.proofs.write.test_keys.Goals as goal

pub returns-in-None : goal.returns-in-None
returns-in-None c =
    let es = c.args.entries.now in
    let k = c.loop-k.k in
    let here = at_drop_more (keys_there k) es k _ c.loop-k-test.true ∙ ap (λ p. there k p (keys_there (k + 1) (drop (k + 1) es))) c.in-None.is in
    ap Err c.new.ensures ∙ sym here ∙ c.loop-k.invariant

pub loop-k-preserved : goal.loop-k-preserved
loop-k-preserved c =
    let es = c.args.entries.now in
    let k = c.loop-k.k in
    let here = at_drop_more (keys_there k) es k _ c.loop-k-test.true ∙ ap (λ p. there k p (keys_there (k + 1) (drop (k + 1) es))) c.in_default.is in
    sym here ∙ c.loop-k.invariant

pub returns : goal.returns
returns c = sym (at_drop_all (keys_there c.loop-k.k) c.args.entries.now c.loop-k.k c.loop-k-test.false) ∙ c.loop-k.invariant
