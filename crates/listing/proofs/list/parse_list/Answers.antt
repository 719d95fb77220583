use Rattle.std.proofs.Common.{vec_items, ap, ◌∙◌}
use Rattle.std.specs.Option.{option_map}
use Rattle.listing.specs.Lists.{list_onto, with_read}
use Rattle.listing.proofs.Fields.{taken, list_read}
use Rattle.listing.proofs.list.parse_list.Goals as goal

pub returns : goal.returns
returns g c =
    let read = g.N.Notation.reads in
    let word = c.args.word.now in
    ap (option_map vec_items) c.then_some.ensures
    ∙ taken vec_items c.in_ok-read_list.field-0 c.read_list.new.words.items
    ∙ c.in_ok-read_list.ensures
    ∙ ap (λ l. list_onto (with_read read) l word) c.new.ensures.items
    ∙ list_read read word
