use Rattle.std.proofs.Common.{◌-◌, ◌^◌, sym, ◌∙◌, arith}
use Rattle.std.proofs.lemmas.Bool.{cond-true, cond-false, le-leb, lt-leb}
use Rattle.syntax.proofs.Parsing.{number_more, number_broken, number_end}
use Rattle.syntax.proofs.parse.parse_number.Goals as goal

pub returns-in_err-n : goal.returns-in_err-n
returns-in_err-n c =
    c.from_residual.ensures
    ∙ sym (number_broken c.args.text.now c.loop-c.n c.loop-c.c-index c.loop-c.invariant (2 ^ 64 - 1) c.args.most (omega arith) c.loop-c-test.true c.in_err-n.ensures)

pub loop-c-preserved : goal.loop-c-preserved
loop-c-preserved c =
    number_more c.args.text.now c.loop-c.n c.loop-c.c-index c.loop-c.invariant (2 ^ 64 - 1) c.in_ok-n.n c.loop-c-test.true c.in_ok-n.ensures

pub returns-then-n-most : goal.returns-then-n-most
returns-then-n-most c =
    sym (number_end c.args.text.now c.loop-c.n c.loop-c.c-index c.loop-c.invariant c.args.most c.loop-c-test.false c.if-is_empty.ensures ∙ cond-true _ _ _ (le-leb _ _ c.if-n-most.true))

pub returns-else-n-most : goal.returns-else-n-most
returns-else-n-most c =
    sym (number_end c.args.text.now c.loop-c.n c.loop-c.c-index c.loop-c.invariant c.args.most c.loop-c-test.false c.if-is_empty.ensures ∙ cond-false _ _ _ (lt-leb _ _ c.if-n-most.false))
