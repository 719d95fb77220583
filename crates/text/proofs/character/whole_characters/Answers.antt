use Rattle.std.proofs.Common.{drop, zero-add, arith, length-drop}
use Rattle.text.specs.Recv.{text_end, character}
use Rattle.text.proofs.Ends.{end_none, end_more}
use Rattle.text.proofs.Leads.{uncounted, counted_is}
use Rattle.text.proofs.Rows.{character_within}
use Rattle.text.proofs.character.whole_characters.Goals as goal

pub loop-length-init : goal.loop-length-init
loop-length-init c = (omega arith, zero-add (text_end c.args.bytes.now))

pub overflow_add-at : goal.overflow_add-at
overflow_add-at c =
    let rest = drop c.loop-length.at c.args.bytes.now in
    let length = counted_is (character rest) c.in-Some.length c.in-Some.ensures in
    omega (arith, character_within rest, length-drop c.loop-length.at c.args.bytes.now)

pub loop-length-smaller : goal.loop-length-smaller
loop-length-smaller c =
    let rest = drop c.loop-length.at c.args.bytes.now in
    let length = counted_is (character rest) c.in-Some.length c.in-Some.ensures in
    omega (arith, character_within rest, length-drop c.loop-length.at c.args.bytes.now)

pub loop-length-preserved : goal.loop-length-preserved
loop-length-preserved c =
    let bs = c.args.bytes.now in
    let at = c.loop-length.at in
    let n = c.in-Some.length in
    let length = counted_is (character (drop at bs)) n c.in-Some.ensures in
    (omega (arith, character_within (drop at bs), length-drop at bs), omega (arith, end_more bs at n length.0 (omega arith)))

pub returns : goal.returns
returns c =
    let rest = drop c.loop-length.at c.args.bytes.now in
    omega (arith, end_none rest (uncounted (character rest) c.in_default.ensures))
