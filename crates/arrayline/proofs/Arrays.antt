-- An array as it is printed, and as it is spelled.
use Rattle.std.proofs.Common.{◌≡◌, ℕ, Bool, List, ◌++◌, Some, codes, decimal, Option, ap, ◌∙◌}
use Rattle.std.proofs.lemmas.List.{append_assoc}
use Rattle.answers.specs.Parts.{texts_of, parts_text}
use Rattle.answers.specs.Plain.{wrote, value_text, flag_text}
use Rattle.array.specs.declared.dimension.ArrayDimension.{ArrayDimension}
use Rattle.array.specs.Encoding.{array_encoding}
use Rattle.array.specs.Recv.{Opened, read_dimension, at_dimensions, at_values}
use Rattle.wire.specs.Cursor.{State, read_nullable}
use Rattle.wire.specs.Encoding.{room_for}
use Rattle.wire.specs.Items.{Item}
use Rattle.arrayline.specs.Arrays.{dimension_text, array_text, written}

-- part by part
pub array_parts : (o : Opened) (nulls : Bool) (oid : ℕ) (ds vs : State) → nulls ≡ o.nulls → oid ≡ o.oid → ds ≡ at_dimensions o → vs ≡ at_values o
    → ((((((codes "array nulls=" ++ flag_text nulls) ++ codes " oid=") ++ decimal oid) ++ codes " dims=") ++ parts_text (texts_of dimension_text read_dimension) ds) ++ codes " values=") ++ parts_text (texts_of value_text read_nullable) vs ≡ array_text o
array_parts o nulls oid ds vs p q r s =
    regrouped (codes "array nulls=") (flag_text nulls) (codes " oid=") (decimal oid) (codes " dims=") (parts_text (texts_of dimension_text read_dimension) ds) (codes " values=") (parts_text (texts_of value_text read_nullable) vs)
    ∙ ap (λ b. all b oid ds vs) p
    ∙ ap (λ n. all o.nulls n ds vs) q
    ∙ ap (λ t. all o.nulls o.oid t vs) r
    ∙ ap (λ t. all o.nulls o.oid (at_dimensions o) t) s
  where
    all : Bool → ℕ → State → State → List ℕ
    all b n d v =
        codes "array nulls="
        ++ (flag_text b
        ++ (codes " oid="
        ++ (decimal n ++ (codes " dims=" ++ (parts_text (texts_of dimension_text read_dimension) d ++ (codes " values=" ++ parts_text (texts_of value_text read_nullable) v))))))

    regrouped : (a b c d e f g h : List ℕ) → ((((((a ++ b) ++ c) ++ d) ++ e) ++ f) ++ g) ++ h ≡ a ++ (b ++ (c ++ (d ++ (e ++ (f ++ (g ++ h))))))
    regrouped a b c d e f g h = simp append_assoc

-- the words of an array that is written
pub written_by : (n oid : ℕ) (ds : List ArrayDimension) (is : List Item) {o : Option ℕ} {p : Option (List ArrayDimension)} {q : Option (List Item)} → Some oid ≡ o → Some ds ≡ p → Some is ≡ q → wrote (room_for n (array_encoding ds oid is)) ≡ written n o p q
written_by n oid ds is {o = o} {p = p} {q = q} e f g =
    ap (λ x. written n x (Some ds) (Some is)) e ∙ ap (λ x. written n o x (Some is)) f ∙ ap (λ x. written n o p x) g
