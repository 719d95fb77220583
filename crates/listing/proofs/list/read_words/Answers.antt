use Rattle.std.proofs.Common.{sym, ap, ◌∙◌}
use Rattle.std.proofs.lemmas.Bool.{cond-false}
use Rattle.std.proofs.lemmas.Result.{IfOk-weaker}
use Rattle.std.specs.Bool.{then_some}
use Rattle.listing.proofs.Fields.{behind_shorter, onto_more, onto_broken, onto_last}
use Rattle.listing.proofs.list.read_words.Goals as goal

pub returns-then-not-branch : goal.returns-then-not-branch
returns-then-not-branch g c =
    let with = g.W.Words.with in
    let held = g.W.Words.held c.loop-word.words in
    let none = ap (λ b. then_some b (g.W.Words.held c.take.new.self)) (sym c.if-not-branch.true) ∙ c.in_ok-take.ensures in
    sym (cond-false _ _ _ (sym c.if-is_empty.ensures)
    ∙ sym c.loop-word.invariant
    ∙ onto_broken with held c.loop-word.rest.now c.in-Some.word.now c.in-Some.behind.now c.in-Some.ensures none)

pub loop-word-smaller : goal.loop-word-smaller
loop-word-smaller g c =
    behind_shorter 44 c.loop-word.rest.now c.in-Some.word.now c.in-Some.behind.now c.in-Some.ensures

pub loop-word-preserved : goal.loop-word-preserved
loop-word-preserved g c =
    let next = g.W.Words.held c.take.new.self in
    let some = ap (λ b. then_some b next) (sym c.if-not-branch.false) ∙ c.in_ok-take.ensures in
    sym (onto_more g.W.Words.with (g.W.Words.held c.loop-word.words) c.loop-word.rest.now c.in-Some.word.now c.in-Some.behind.now next c.in-Some.ensures some)
    ∙ c.loop-word.invariant

pub returns : goal.returns
returns g c =
    let all =
    sym (onto_last g.W.Words.with (g.W.Words.held c.loop-word.words) c.loop-word.rest.now c.in_default.ensures)
    ∙ c.loop-word.invariant
    ∙ sym (cond-false _ _ _ (sym c.if-is_empty.ensures)) in
    IfOk-weaker c.take-2.result _ _ (λ b p. p ∙ all) c.take-2.ensures
