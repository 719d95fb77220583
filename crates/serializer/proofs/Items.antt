-- What a size tells of an item.
use Rattle.std.proofs.Common.{◌≡◌, ℕ, List, [], length, Some, None, Ok, Err, refl}
use Rattle.wire.specs.Items.{Item, size_of}

pub item_payload : (i : Item) (n : ℕ) → size_of i ≡ Ok (Some n) → (bs : List ℕ) × (i ≡ Ok (Some bs)) × (length bs ≡ n)
item_payload (Ok None) n e = ([], cc, cc)
item_payload (Ok (Some bs)) n e = (bs, refl, cc)
item_payload (Err f) n e = ([], cc, cc)
