use Rattle.std.proofs.Common.{◌≡◌, ◌+◌, Ok, ap, ◌∙◌, arith, w32, SFits, rules}
use Rattle.std.proofs.lemmas.Int.{to_z-of_z}
use Rattle.wire.specs.Encoding.{told_at, laid_at}
use Rattle.wire.specs.Words.{int}
use Rattle.wire.proofs.Writing.{told_fits, laid_fits, told_on, laid_on}
use Rattle.array.proofs.write.put_dimension.Goals as goal

pub returns : goal.returns
returns c =
    let at = c.args.at in
    let part = c.args.part.now in
    let len = int c.args.dim.len in
    let low = int c.args.dim.lower_bound in
    let len-fits : SFits w32 c.args.dim.len = search rules in
    let low_fits : SFits w32 c.args.dim.lower_bound = search rules in
    let len_back = to_z-of_z w32 c.args.dim.len len-fits in
    let low-back = to_z-of_z w32 c.args.dim.lower_bound low_fits in
    let told-first = c.put.ensures.answer ∙ ap (λ z. told_at at (int z) part) len_back ∙ told_fits at len part (omega arith) in
    let first = c.put.ensures.after ∙ ap (λ z. laid_at at (int z) part) len_back ∙ laid_fits at len part (omega arith) in
    let place : c.in_ok-at.at ≡ at + 4 = let was = c.in_ok-at.was in cc in
    let told = c.put-2.ensures.answer ∙ ap (λ z. told_at c.in_ok-at.at (int z) c.put.new.part) low-back ∙ told_on at c.in_ok-at.at len low part _ (omega arith) place first in
    let behind : c.in_ok-at.at + 4 ≡ at + 8 = omega arith in
    record {
      answer = told ∙ ap Ok behind;
      after = c.put-2.ensures.after ∙ ap (λ z. laid_at c.in_ok-at.at (int z) c.put.new.part) low-back ∙ laid_on at c.in_ok-at.at len low part _ (omega arith) place first;
    }
