use Rattle.std.proofs.Common.{◌-◌, ◌^◌, length, vec_items, ap, ◌∙◌}
use Rattle.answers.proofs.Answering.{says}
use Rattle.answers.specs.Plain.{room}
use Rattle.items.specs.Spelled.{item_in}
use Rattle.listing.specs.Lists.{list_in}
use Rattle.syntax.specs.Parsed.{number_in}
use Rattle.arrayline.specs.Arrays.{dimension_in, written, listed_words, typed_words}
use Rattle.arrayline.proofs.requests.array_to_sql.Goals as goal

pub returns : goal.returns
returns c =
    let n = room (length c.args.argument.now) in
    let oid = c.in-Some.oid.now in
    let dims = c.in-Some-split_at_first.dims.now in
    let items = c.in-Some-split_at_first.items.now in
    says vec_items c.write_array.result _ _
    (ap (λ m. written m (number_in (2 ^ 32 - 1) oid) (list_in dimension_in dims) (list_in item_in items)) c.in_ok-part.ensures
    ∙ ap (listed_words n oid) c.in-Some-split_at_first.ensures
    ∙ ap (typed_words n) c.in-Some.ensures)
    c.write_array.ensures
