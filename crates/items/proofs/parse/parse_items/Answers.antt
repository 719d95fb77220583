use Rattle.std.proofs.Common.{List, map, vec_items, ap, ◌∙◌}
use Rattle.std.specs.Option.{option_map}
use Rattle.listing.proofs.Fields.{taken, list_read}
use Rattle.listing.specs.Lists.{list_onto, with_read}
use Rattle.wire.specs.Items.{Item}
use Rattle.items.specs.declared.list.ItemList.{ItemList}
use Rattle.items.specs.Slots.{slot_item}
use Rattle.items.specs.Spelled.{item_in}
use Rattle.items.proofs.parse.parse_items.Goals as goal

pub returns : goal.returns
returns c =
    let word = c.args.word.now in
    let held : ItemList → List Item = λ l. map slot_item (vec_items l.slots) in
    ap (option_map held) c.then_some.ensures
    ∙ taken held c.in_ok-read_list.field-0 c.read_list.new.words
    ∙ c.in_ok-read_list.ensures
    ∙ ap (λ l. list_onto (with_read item_in) (map slot_item l) word) c.new.ensures.items
    ∙ list_read item_in word
