use Rattle.std.proofs.Common.{◌+◌, ◌≤◌, length, sym, ◌∙◌, arith}
use Rattle.wire.proofs.Writing.{told_fits, laid_fits, put_mid_is}
use Rattle.wire.proofs.write.put_bytes.Goals as goal

pub returns : goal.returns
returns c =
    let at = c.args.at in
    let ws = c.args.bytes.now in
    let part = c.args.part.now in
    let h : at + length ws ≤ length part = omega arith in
    record {
      answer = sym (told_fits at ws part h);
      after = put_mid_is at _ ws part _ c.copy_from_slice.ensures.after (omega arith) ∙ sym (laid_fits at ws part h);
    }
