-- The requests that read and write a range.
use Rattle.std.specs.Prelude.{ℕ, cond, List, [], ◌∷◌, ◌++◌, length, Some, None, Ok, Err, codes, Option, Result}
use Rattle.std.specs.Str.{bytes_eq}
use Rattle.answers.specs.Plain.{bad_request, refused, wrote, value_text, room}
use Rattle.fault.specs.declared.Fault.{Fault}
use Rattle.items.specs.Spelled.{item_in}
use Rattle.range.specs.declared.bound.RangeBound.{RangeBound}
use Rattle.range.specs.declared.bound.RangeBound.TheVariants.{Inclusive, Exclusive, Unbounded}
use Rattle.range.specs.Encoding.{range_encoding}
use Rattle.range.specs.Recv.{Content}
use Rattle.syntax.specs.Parsed.{split_at}
use Rattle.wire.specs.Encoding.{room_for}
use Rattle.wire.specs.Items.{Item}
use Rattle.wire.specs.Words.{Value}

-- inc:xB, exc:xB, with NULL for xB, or unb
abbrev pub bound_text : RangeBound Value → List ℕ
bound_text (Inclusive v) = codes "inc:" ++ value_text v
bound_text (Exclusive v) = codes "exc:" ++ value_text v
bound_text Unbounded = codes "unb"

-- range empty, or range lower=B upper=B
abbrev pub range_text : Content → List ℕ
range_text None = codes "range empty"
range_text (Some p) = codes "range lower=" ++ (bound_text p.0 ++ (codes " upper=" ++ bound_text p.1))

abbrev pub range_answer : Result Content Fault → List ℕ
range_answer (Ok c) = range_text c
range_answer (Err f) = refused f

-- the items of the sides that were read, and the bound that was read last, by the number of its item
abbrev pub Sides : Type 0
Sides = List Item × RangeBound ℕ

-- one more bounded side: its item is the last
abbrev pub with_item : (ℕ → RangeBound ℕ) → List Item → Option Item → Option Sides
with_item kind is (Some i) = Some (is ++ (i ∷ []), kind (length is))
with_item kind is None = None

abbrev pub bound_of_kind : List Item → Option (List ℕ × List ℕ) → Option Sides
bound_of_kind is (Some p) =
    cond (bytes_eq p.0 (codes "inc")) (with_item Inclusive is (item_in p.1))
    (cond (bytes_eq p.0 (codes "exc")) (with_item Exclusive is (item_in p.1)) None)
bound_of_kind is None = None

-- the bound that a word spells, behind the items that stand already
abbrev pub bound_in : List Item → List ℕ → Option Sides
bound_in is w = cond (bytes_eq w (codes "unb")) (Some (is, Unbounded)) (bound_of_kind is (split_at 58 w))

abbrev pub both_in : ℕ → RangeBound ℕ → Option Sides → List ℕ
both_in n lower (Some s) = wrote (room_for n (range_encoding s.0 lower s.1))
both_in n lower None = bad_request

abbrev pub lower_in : ℕ → List ℕ → Option Sides → List ℕ
lower_in n upper (Some s) = both_in n s.1 (bound_in s.0 upper)
lower_in n upper None = bad_request

abbrev pub range_words : ℕ → Option (List ℕ × List ℕ) → List ℕ
range_words n (Some p) = lower_in n p.1 (bound_in [] p.0)
range_words n None = bad_request

-- B B: the serializer holds the items of the bounded sides, lower before upper
abbrev pub range_written : List ℕ → List ℕ
range_written argument = range_words (room (length argument)) (split_at 32 argument)
