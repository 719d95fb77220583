use Rattle.std.proofs.Common.{◌≡◌, ◌+◌, ◌≤◌, length, Ok, sym, ap, ◌∙◌, subst, arith}
use Rattle.wire.specs.Bytes.{put}
use Rattle.wire.specs.Words.{be}
use Rattle.wire.proofs.Writing.{told_fits, laid_fits, told_on, laid_on}
use Rattle.inet.specs.Layout.{octets}
use Rattle.inet.proofs.write.put_octets.Goals as goal

pub returns-in_ok-at-in-V6 : goal.returns-in_ok-at-in-V6
returns-in_ok-at-in-V6 c =
    let high = be 8 c.in-V6.high in
    let low = be 8 c.in-V6.low in
    let part = c.args.part.now in
    let room : 20 ≤ length part = subst (λ a. 4 + length (octets a) ≤ length part) c.in-V6.is c.requires in
    let at : c.in_ok-at-in-V6.at ≡ 12 = let t = told_fits 4 high part (omega arith) in let u = c.in_ok-at-in-V6.ensures.answer in cc in
    let first = c.put-in-V6.ensures.after ∙ laid_fits 4 high part (omega arith) in
    let told = c.put-in-V6-2.ensures.answer ∙ told_on 4 c.in_ok-at-in-V6.at high low part _ (omega arith) at first in
    record {
      answer = told ∙ ap (λ n. Ok (n + 8)) at ∙ ap (λ a. Ok (4 + length (octets a))) (sym c.in-V6.is);
      after = c.put-in-V6-2.ensures.after ∙ laid_on 4 c.in_ok-at-in-V6.at high low part _ (omega arith) at first ∙ ap (λ a. put 4 (octets a) part) (sym c.in-V6.is);
    }
