use Rattle.std.proofs.Common.{Err, sym, ap, ◌∙◌, arith, None}
use Rattle.texts.specs.Places.{pool_pair}
use Rattle.texts.proofs.Items.{item_within, item_past}
use Rattle.texts.proofs.texts.Texts.item.Goals as goal

pub returns-then-k-self : goal.returns-then-k-self
returns-then-k-self c =
    let self = c.args.self.now in
    ap Err c.new.ensures ∙ sym (item_past (pool_pair self.pools) self.places.now c.args.k (omega arith))

pub returns : goal.returns
returns c =
    let self = c.args.self.now in
    c.text.ensures ∙ sym (item_within (pool_pair self.pools) self.places.now c.args.k None c.if-k-self.false)
