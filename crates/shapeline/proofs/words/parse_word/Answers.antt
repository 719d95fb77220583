use Rattle.std.proofs.Common.{◌≡◌, ◌+◌, ◌*◌, get_or, drop, Some, sym, ap, ◌∙◌, arith}
use Rattle.shapeline.specs.Words.{hex_after}
use Rattle.shapeline.proofs.Digits.{word_room, word_more, word_broken, word_end, word_grows, nibble_small}
use Rattle.shapeline.proofs.words.parse_word.Goals as goal

pub overflow_mul-word : goal.overflow_mul-word
overflow_mul-word c = let room = word_room c.loop-c.word c.loop-c.c-index c.loop-c.invariant.1 (omega arith) in omega arith

pub overflow_add-word : goal.overflow_add-word
overflow_add-word c =
    let room = word_room c.loop-c.word c.loop-c.c-index c.loop-c.invariant.1 (omega arith) in
    let small = nibble_small (get_or c.args.digits.now c.loop-c.c-index 0) c.in_ok-hex_value.field-0 c.in_ok-hex_value.ensures in
    omega arith

pub returns-in_err-hex_value : goal.returns-in_err-hex_value
returns-in_err-hex_value c =
    c.from_residual.ensures
    ∙ sym (word_broken c.args.digits.now c.loop-c.word c.loop-c.c-index c.loop-c.invariant.0 c.if-digits-ne16.false c.loop-c-test.true c.in_err-hex_value.ensures)

pub loop-c-preserved : goal.loop-c-preserved
loop-c-preserved c =
    let ds = c.args.digits.now in
    let n = c.loop-c.word in
    let i = c.loop-c.c-index in
    let d = c.in_ok-hex_value.field-0 in
    let same : n * 16 + c.from.result ≡ n * 16 + d = ap (λ m. n * 16 + m) c.from.ensures in
    let grows = word_grows n i d (get_or ds i 0) c.loop-c.invariant.1 c.in_ok-hex_value.ensures in (
      ap (λ m. hex_after (Some m) (drop (i + 1) ds)) same ∙ word_more ds n i c.loop-c.invariant.0 c.if-digits-ne16.false d c.loop-c-test.true c.in_ok-hex_value.ensures,
      omega arith,
    )

pub returns : goal.returns
returns c =
    sym (word_end c.args.digits.now c.loop-c.word c.loop-c.c-index c.loop-c.invariant.0 c.if-digits-ne16.false c.loop-c-test.false)
