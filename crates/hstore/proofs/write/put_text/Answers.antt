use Rattle.std.proofs.Common.{◌≡◌, ◌+◌, ◌≤◌, ◌++◌, length, pos, Some, Ok, sym, ap, ◌∙◌, subst, arith, w32, SFits, to_z, of_z, rules}
use Rattle.std.proofs.lemmas.Int.{to_z-of_z}
use Rattle.texts.specs.Places.{pool_pair}
use Rattle.wire.specs.Bytes.{put}
use Rattle.wire.specs.Encoding.{told_at, laid_at}
use Rattle.wire.specs.Items.{nullable}
use Rattle.wire.specs.Words.{be, int}
use Rattle.wire.proofs.Counts.{count_fits}
use Rattle.wire.proofs.Writing.{told_fits, laid_fits, told_on, laid_on}
use Rattle.hstore.specs.Encoding.{place_value}
use Rattle.hstore.proofs.write.put_text.Goals as goal

pub returns : goal.returns
returns c =
    let at = c.args.at in
    let to = c.in_ok-at.at in
    let part = c.args.part.now in
    let text = c.in-Some-lookup.text.now in
    let word = be 4 (length text) in
    let ps = pool_pair c.args.pools in
    let is : place_value ps c.args.place ≡ Some text = ap (place_value ps) c.in-Some.is ∙ sym c.in-Some-lookup.ensures in
    let room : at + length (word ++ text) ≤ length part = subst (λ v. at + length (nullable v) ≤ length part) is c.requires.room in
    let z = c.in_ok-from_usize.field-0 in
    let fits : SFits w32 z = search rules in
    let same : to_z w32 (of_z w32 z) ≡ pos (length text) = to_z-of_z w32 z fits ∙ (count_fits (length text) 0 z c.in_ok-from_usize.ensures).1 in
    let first = c.put-2.ensures.after ∙ ap (λ z. laid_at at (int z) part) same ∙ laid_fits at word part (omega arith) in
    let told = c.put-2.ensures.answer ∙ ap (λ z. told_at at (int z) part) same ∙ told_fits at word part (omega arith) in
    let place : to ≡ at + 4 = let was = c.in_ok-at.was in cc in
    let end : to + length text ≡ at + length (word ++ text) = omega arith in
    record {
      answer = c.put_bytes.ensures.answer ∙ told_on at to word text part _ (omega arith) place first ∙ ap Ok end ∙ ap (λ v. Ok (at + length (nullable v))) (sym is);
      after = c.put_bytes.ensures.after ∙ laid_on at to word text part _ (omega arith) place first ∙ ap (λ v. put at (nullable v) part) (sym is);
    }
