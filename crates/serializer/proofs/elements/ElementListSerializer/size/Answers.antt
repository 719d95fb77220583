use Rattle.std.proofs.Common.{Ok, Err, sym, ap, ◌∙◌}
use Rattle.wire.specs.Items.{size_of}
use Rattle.serializer.proofs.Runs.{item_within, item_past}
use Rattle.serializer.proofs.elements.ElementListSerializer.size.Goals as goal

pub returns-then-k-self : goal.returns-then-k-self
returns-then-k-self g c =
    ap Err c.new.ensures ∙ sym (ap size_of (item_past g.T.Element.value c.args.self.now.run.now c.args.k c.if-k-self.true))

pub returns : goal.returns
returns g c =
    let is = item_within g.T.Element.value c.args.self.now.run.now c.args.k c.index-self-k.result c.if-k-self.false in
    ap Ok c.size.ensures ∙ sym (ap size_of is)
