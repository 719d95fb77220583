use Rattle.std.proofs.Common.{length, sym, subst}
use Rattle.serializer.specs.Lists.{item_at}
use Rattle.wire.specs.Items.{fitting}
use Rattle.pile.specs.Match.{NotRefused}
use Rattle.pile.proofs.Deep.{reads_back, matching_accepts}
use Rattle.pile.proofs.Judging.{fitting_payload, accepted_so}
use Rattle.pile.proofs.write_judged.Goals as goal

pub returns : goal.returns
returns g c =
    let items = g.S.Serializer.items c.args.serializer.now in
    let v = g.V.Validator.verdict c.args.validator.now in
    let k = c.args.k in
    let room = length c.args.part.now in
    let done = c.write_and_judge.ensures in
    record {
      answer = done.answer;
      after = done.after;
      accepted = λ m. subst NotRefused (sym done.answer) (accepted_so v (fitting room (item_at items k)) (λ bs e. matching_accepts items v m k bs (fitting_payload room (item_at items k) bs e)));
      back = reads_back items k;
    }
