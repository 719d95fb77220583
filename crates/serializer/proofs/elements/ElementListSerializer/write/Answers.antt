use Rattle.std.proofs.Common.{length, Err, sym, ap, ◌∙◌}
use Rattle.wire.specs.Items.{null_of, fitting, filled}
use Rattle.serializer.proofs.Runs.{item_within, item_past}
use Rattle.serializer.proofs.elements.ElementListSerializer.write.Goals as goal

pub returns-then-k-self : goal.returns-then-k-self
returns-then-k-self g c =
    let part = c.args.part.now in
    let is = item_past g.T.Element.value c.args.self.now.run.now c.args.k c.if-k-self.true in
    record {
      answer = ap Err c.new.ensures ∙ sym (ap (λ i. null_of (fitting (length part) i)) is);
      after = sym (ap (λ i. filled (fitting (length part) i) part) is);
    }

pub returns : goal.returns
returns g c =
    let part = c.args.part.now in
    let is = item_within g.T.Element.value c.args.self.now.run.now c.args.k c.index-self-k.result c.if-k-self.false in
    record {
      answer = c.write.ensures.answer ∙ sym (ap (λ i. null_of (fitting (length part) i)) is);
      after = c.write.ensures.after ∙ sym (ap (λ i. filled (fitting (length part) i) part) is);
    }
