use Rattle.std.proofs.Common.{◌≡◌, ◌+◌, length, Some, None, Ok, sym, ap, ◌∙◌, arith}
use Rattle.std.proofs.lemmas.List.{length-append}
use Rattle.std.specs.Option.{option_map}
use Rattle.hstore.specs.Layout.{entry_layout}
use Rattle.hstore.proofs.Forms.{entry_by}
use Rattle.hstoreview.proofs.Parts.{key_text, value_null, value_text}
use Rattle.hstoreview.proofs.entries.EntriesPart.read.Goals as goal

pub returns-in_ok-value-in-Some-2-clause-answer : goal.returns-in_ok-value-in-Some-2-clause-answer
returns-in_ok-value-in-Some-2-clause-answer c =
    let bs = c.args.buf.now in
    let at = c.args.at in
    let key = c.in_ok-key-2.key.now in
    let value = c.in_ok-value-in-Some-2.value.now in
    let key_is = key_text bs at c.in_ok-key.ensures _ key (ap (option_map (λ x. x.now)) c.in-Some.is) c.in_ok-key-2.ensures in
    let value_is = value_text bs (at + 4 + length key) c.in_ok-value.ensures _ value (ap (option_map (λ x. x.now)) c.in-Some-2.is) c.in_ok-value-in-Some-2.ensures in
    let size : 8 + length key + length value ≡ length (entry_layout (key, Some value)) = simp length-append (omega arith) in
    ap (λ n. Ok ((key, Some value), n)) size ∙ sym (entry_by bs at (key, Some value) key_is value_is)

pub returns-in-None-clause-answer : goal.returns-in-None-clause-answer
returns-in-None-clause-answer c =
    let bs = c.args.buf.now in
    let at = c.args.at in
    let key = c.in_ok-key-2.key.now in
    let key_is = key_text bs at c.in_ok-key.ensures _ key (ap (option_map (λ x. x.now)) c.in-Some.is) c.in_ok-key-2.ensures in
    let value_is = value_null bs (at + 4 + length key) c.in_ok-value.ensures (ap (option_map (λ x. x.now)) c.in-None.is) in
    let size : 8 + length key ≡ length (entry_layout (key, None)) = simp length-append (omega arith) in
    ap (λ n. Ok ((key, None), n)) size ∙ sym (entry_by bs at (key, None) key_is value_is)
