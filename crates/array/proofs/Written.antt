-- What was written for a sound array is opened and read to the end as it.
use Rattle.std.proofs.Common.{◌≡◌, ℕ, ◌^◌, ◌<◌, Bool, true, false, cond, not, eqb, List, [], ◌∷◌, Ok, Err, refl, subst, lit<}
use Rattle.std.proofs.ByRecursion.{All-from_get_or}
use Rattle.std.proofs.lemmas.List.{get_or_default}
use Rattle.std.specs.List.{AllByRecursion}
use Rattle.fault.specs.declared.Rule.TheVariants.{Missing}
use Rattle.fault.specs.Faults.{fault}
use Rattle.wire.specs.Cursor.{Row, none, one, Nullable}
use Rattle.wire.specs.Items.{Item, Within}
use Rattle.wire.specs.Words.{Value}
use Rattle.wire.proofs.Nullables.{nullable_written}
use Rattle.serializer.specs.Lists.{Short, item_at, values}
use Rattle.array.specs.declared.dimension.ArrayDimension.{ArrayDimension}
use Rattle.array.specs.Laws.{Form, Opens, WrittenBack}
use Rattle.array.specs.Layout.{elements, has_null, array_layout}
use Rattle.array.proofs.Back.{reads_back}

-- every payload of a serializer is short
short_values : (is : List Item) → AllByRecursion Short is → AllByRecursion (λ v. Within 2147483647 (Ok v)) (values is)
short_values [] short = tt
short_values (Ok v ∷ is) short = (short.0, short_values is short.1)
short_values (Err f ∷ is) short = short_values is short.1

pub all_short : (is : List Item) → ((k : ℕ) → Short (item_at is k)) → AllByRecursion (λ v. Within 2147483647 (Ok v)) (values is)
all_short is short =
    let none-there : Item = Err (fault Missing 0) in
    short_values is (All-from_get_or Short is none-there (λ k h. subst Short (get_or_default is k (Err (fault Missing k)) none-there h) (short k)))

written_row : (vs : List Value) → AllByRecursion (λ v. Within 2147483647 (Ok v)) vs → Row Nullable vs (elements vs)
written_row [] short = none
written_row (v ∷ vs) short = one (nullable_written v short.0) (written_row vs short.1)

flag_fits : (b : Bool) → cond b 1 0 < 2 ^ 32
flag_fits true = lit< tt
flag_fits false = lit< tt

flag_back : (b : Bool) → not (eqb (cond b 1 0) 0) ≡ b
flag_back true = refl
flag_back false = refl

pub written_back : (ds : List ArrayDimension) (oid : ℕ) (vs : List Value) → AllByRecursion (λ v. Within 2147483647 (Ok v)) vs → WrittenBack ds oid vs
written_back ds oid vs short sound =
    let flag = cond (has_null vs) 1 0 in
    let form : Form flag ds oid vs (array_layout ds oid vs) = record { word = flag_fits (has_null vs); last = elements vs; whole = refl; row = written_row vs short } in
    subst (λ b. Opens (array_layout ds oid vs) b ds oid vs) (flag_back (has_null vs)) (reads_back (array_layout ds oid vs) flag ds oid vs sound form)
