use Rattle.std.proofs.Common.{◌++◌, codes, decimal, ap, ◌∙◌}
use Rattle.std.proofs.lemmas.Slice.{pushed}
use Rattle.answers.specs.Parts.{texts_of, parts_text}
use Rattle.answers.specs.Plain.{value_text, flag_text}
use Rattle.array.specs.Recv.{read_dimension}
use Rattle.arrayview.specs.Views.{opened}
use Rattle.wire.specs.Cursors.{state}
use Rattle.wire.specs.Cursor.{read_nullable}
use Rattle.arrayline.specs.Arrays.{dimension_text}
use Rattle.arrayline.proofs.Arrays.{array_parts}
use Rattle.arrayline.proofs.requests.print_array.Goals as goal

pub returns : goal.returns
returns c =
    let nulls = c.has_nulls.result in
    let oid = c.from.result in
    let ds = state c.new.result.cursor in
    let vs = state c.new-2.result.cursor in
    let flag = c.in_ok-push_flag.ensures ∙ ap (λ l. l ++ flag_text nulls) c.in_ok-out.ensures.items in
    let named = pushed (codes " oid=") flag c.in_ok-extend_from_slice.was c.extend_from_slice.ensures.items in
    let typed = c.in_ok-push_decimal.ensures ∙ ap (λ l. l ++ decimal oid) named in
    let headed = pushed (codes " dims=") typed c.in_ok-extend_from_slice-2.was c.extend_from_slice-2.ensures.items in
    let sized = c.in_ok-push_parts.ensures ∙ ap (λ l. l ++ parts_text (texts_of dimension_text read_dimension) ds) headed in
    let begun = pushed (codes " values=") sized c.in_ok-extend_from_slice-3.was c.extend_from_slice-3.ensures.items in
    c.in_ok-push_parts-2.ensures
    ∙ ap (λ l. l ++ parts_text (texts_of value_text read_nullable) vs) begun
    ∙ array_parts (opened c.args.array.now) nulls oid ds vs c.has_nulls.ensures (c.from.ensures ∙ c.element_type.ensures) (ap state c.new.ensures ∙ c.dimensions.ensures) (ap state c.new-2.ensures ∙ c.values.ensures)
