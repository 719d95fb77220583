use Rattle.pile.proofs.Agree.{reads_exactly}
use Rattle.pile.proofs.Deep.{matching_accepts, reads_back, accepts_by}
use Rattle.serializer.specs.Lists.{item_at}
use Rattle.agreement.proofs.Steps.{book_kept, equal_bytes}
use Rattle.agreement.proofs.compare_and_judge.Goals as goal

pub returns : goal.returns
returns g c =
    let s = c.args.ours.now in
    let b = c.args.buffer.now in
    let t = c.args.theirs.now in
    let d = c.args.other.now in
    let items = g.S.Serializer.items c.args.serializer.now in
    let v = g.V.Validator.verdict c.args.validator.now in
    record {
      same = c.same_bytes-same.ensures.answer;
      item = c.write_judged.ensures.answer;
      after = c.write_judged.ensures.after;
      one_result = record {
        ours = book_kept s b;
        theirs = book_kept t d;
        equal = equal_bytes s b t d;
        piles = record { reads = reads_exactly v; accepts = λ m k. accepts_by v (item_at items k) (matching_accepts items v m k); back = reads_back items };
      };
    }
