-- The requests that show the items of a serializer.
use Rattle.std.specs.Prelude.{ℕ, cond, List, ◌++◌, map, Some, None, Ok, Err, codes, Option}
use Rattle.std.specs.Str.{bytes_eq}
use Rattle.answers.specs.Plain.{bad_request, value_text, failure, list_text}
use Rattle.element.specs.Kinds.{int4, int8, optional}
use Rattle.serializer.specs.Runs.{run_items}
use Rattle.syntax.specs.Parsed.{bytes_in, split_at}
use Rattle.texts.specs.Places.{Place, place_items}
use Rattle.wire.specs.Items.{Item}
use Rattle.listing.specs.Lists.{list_in}
use Rattle.listing.specs.Words.{element_in, place_in}

-- an item: NULL, its payload, or ! and its fault
abbrev pub item_text : Item → List ℕ
item_text (Ok v) = value_text v
item_text (Err f) = failure f

abbrev pub items_text : List Item → List ℕ
items_text is = codes "items " ++ list_text (map item_text is)

-- the items of a list of elements
abbrev pub on_elements : {X : Type 0} → (List X → List Item) → Option (List X) → List ℕ
on_elements items (Some xs) = items_text (items xs)
on_elements items None = bad_request

-- element_list int4 [N,NULL,..] and element_list int8 [N,NULL,..]
abbrev pub by_kind : List ℕ → List ℕ → List ℕ
by_kind kind list =
    cond (bytes_eq kind (codes "int4")) (on_elements (run_items (optional int4)) (list_in (element_in 31) list))
    (cond (bytes_eq kind (codes "int8")) (on_elements (run_items (optional int8)) (list_in (element_in 63) list)) bad_request)

abbrev pub element_list_answer : Option (List ℕ × List ℕ) → List ℕ
element_list_answer (Some p) = by_kind p.0 p.1
element_list_answer None = bad_request

-- texts xHOUSE xSUPPLIER [h:START:LENGTH,s:START:LENGTH,NULL,..]
abbrev pub on_places : Option (List ℕ) → Option (List ℕ) → Option (List Place) → List ℕ
on_places (Some house) (Some supplier) (Some places) = items_text (place_items (house, supplier) 0 places)
on_places (Some house) (Some supplier) None = bad_request
on_places (Some house) None ps = bad_request
on_places None s ps = bad_request

abbrev pub on_pools : List ℕ → Option (List ℕ × List ℕ) → List ℕ
on_pools house (Some q) = on_places (bytes_in house) (bytes_in q.0) (list_in place_in q.1)
on_pools house None = bad_request

abbrev pub texts_answer : Option (List ℕ × List ℕ) → List ℕ
texts_answer (Some p) = on_pools p.0 (split_at 32 p.1)
texts_answer None = bad_request
