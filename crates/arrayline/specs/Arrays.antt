-- The requests that read and write an array.
use Rattle.std.specs.Prelude.{ℕ, ◌-◌, ◌^◌, List, ◌∷◌, ◌++◌, length, ℤ, Some, None, Ok, Err, codes, decimal, Option, Result}
use Rattle.answers.specs.Parts.{texts_of, parts_text}
use Rattle.answers.specs.Plain.{bad_request, refused, wrote, signed_text, value_text, flag_text, room}
use Rattle.array.specs.declared.dimension.ArrayDimension.{ArrayDimension}
use Rattle.array.specs.Encoding.{array_encoding}
use Rattle.array.specs.Recv.{Opened, read_dimension, at_dimensions, at_values}
use Rattle.fault.specs.declared.Fault.{Fault}
use Rattle.items.specs.Spelled.{item_in}
use Rattle.listing.specs.Lists.{list_in}
use Rattle.listing.specs.Words.{signed_in}
use Rattle.syntax.specs.Parsed.{number_in, split_at}
use Rattle.wire.specs.Cursor.{read_nullable}
use Rattle.wire.specs.Encoding.{room_for}
use Rattle.wire.specs.Items.{Item}

-- LENGTH:LOWER
abbrev pub dimension_text : ArrayDimension → List ℕ
dimension_text d = signed_text d.len ++ (58 ∷ signed_text d.lower_bound)

-- array nulls=0|1 oid=N dims=[..] values=[..]
abbrev pub array_text : Opened → List ℕ
array_text o =
    codes "array nulls="
    ++ (flag_text o.nulls
    ++ (codes " oid="
    ++ (decimal o.oid
    ++ (codes " dims="
    ++ (parts_text (texts_of dimension_text read_dimension) (at_dimensions o)
    ++ (codes " values=" ++ parts_text (texts_of value_text read_nullable) (at_values o)))))))

abbrev pub array_answer : Result Opened Fault → List ℕ
array_answer (Ok o) = array_text o
array_answer (Err f) = refused f

abbrev pub dimension_of : Option ℤ → Option ℤ → Option ArrayDimension
dimension_of (Some len) (Some lower) = Some (record { len = len; lower_bound = lower })
dimension_of (Some len) None = None
dimension_of None lower = None

abbrev pub dimension_parts : Option (List ℕ × List ℕ) → Option ArrayDimension
dimension_parts (Some p) = dimension_of (signed_in 31 p.0) (signed_in 31 p.1)
dimension_parts None = None

-- the dimension that a word is
abbrev pub dimension_in : List ℕ → Option ArrayDimension
dimension_in w = dimension_parts (split_at 58 w)

-- what the encoder writes to a part of so many bytes
abbrev pub written : ℕ → Option ℕ → Option (List ArrayDimension) → Option (List Item) → List ℕ
written n (Some oid) (Some ds) (Some is) = wrote (room_for n (array_encoding ds oid is))
written n (Some oid) (Some ds) None = bad_request
written n (Some oid) None is = bad_request
written n None ds is = bad_request

abbrev pub listed_words : ℕ → List ℕ → Option (List ℕ × List ℕ) → List ℕ
listed_words n oid (Some q) = written n (number_in (2 ^ 32 - 1) oid) (list_in dimension_in q.0) (list_in item_in q.1)
listed_words n oid None = bad_request

abbrev pub typed_words : ℕ → Option (List ℕ × List ℕ) → List ℕ
typed_words n (Some p) = listed_words n p.0 (split_at 32 p.1)
typed_words n None = bad_request

-- OID [LENGTH:LOWER,..] [xB,NULL,..]
abbrev pub array_written : List ℕ → List ℕ
array_written argument = typed_words (room (length argument)) (split_at 32 argument)
