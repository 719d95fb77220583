use Rattle.std.proofs.Common.{◌≡◌, ◌-◌, length, take, Some, Ok, sym, ap, ◌∙◌, arith}
use Rattle.serializer.specs.Lists.{item_at}
use Rattle.wire.specs.Items.{size_of}
use Rattle.pile.proofs.Judging.{item_judged}
use Rattle.pile.proofs.write_and_judge.Goals as goal

pub returns-in-Some : goal.returns-in-Some
returns-in-Some g c =
    let i = item_at (g.S.Serializer.items c.args.serializer.now) c.args.k in
    let part = c.args.part.now in
    let v = g.V.Validator.verdict c.args.validator.now in
    let n = c.in-Some.length in
    let size : Ok (Some n) ≡ size_of i = sym (ap Ok c.in-Some.is) ∙ c.in_ok-size.ensures in
    let less : n - 0 ≡ n = omega arith in
    let w = c.in_ok-write.ensures in
    record {
      answer = item_judged v (length part) i n c.in_ok-write.field-0 part c.write.new.part c.validate.result size w.answer w.after (c.validate.ensures ∙ ap (λ m. v (take m c.write.new.part)) less);
      after = w.after;
    }
