-- What ties writing, opening and reading an array together.
use Rattle.std.specs.Prelude.{◌≡◌, ℕ, ◌*◌, ◌^◌, ◌<◌, Bool, cond, not, List, [], ◌∷◌, length, ℤ, pos, negsuc, Some, None, Ok, Option, FitsSigned, ◌==◌, nat_lt}
use Rattle.std.specs.Int.{w32}
use Rattle.std.specs.List.{AllByRecursion}
use Rattle.wire.specs.Cursor.{Reads, Row, Nullable, read_nullable}
use Rattle.wire.specs.Items.{Within}
use Rattle.wire.specs.Words.{Value}
use Rattle.array.specs.declared.dimension.ArrayDimension.{ArrayDimension}
use Rattle.array.specs.Layout.{array_bytes, array_layout, has_null}
use Rattle.array.specs.Recv.{Opened, array_recv, read_dimension, at_dimensions, at_values}

-- the product of dimensions from the left: none where a length is negative or a product is too great
abbrev pub times : ℕ → ℤ → Option ℕ
times p (pos n) = cond (nat_lt (p * n) (2 ^ 31)) (Some (p * n)) None
times p (negsuc n) = None

abbrev pub product : Option ℕ → List ArrayDimension → Option ℕ
product None ds = None
product (Some p) [] = Some p
product (Some p) (d ∷ ds) = product (times p d.len) ds

-- how many elements dimensions make; no dimensions make none
abbrev pub element_count : List ArrayDimension → Option ℕ
element_count [] = Some 0
element_count (d ∷ ds) = product (Some 1) (d ∷ ds)

-- the numbers of a dimension are signed words
abbrev pub Words : ArrayDimension → Type 0
Words d = FitsSigned w32 d.len × FitsSigned w32 d.lower_bound

-- dimensions, an element OID and as many elements as the dimensions make
pub record Sound (ds : List ArrayDimension) (oid : ℕ) (vs : List Value) : Type 0 where
  pub words : AllByRecursion Words ds
  pub few : length ds < 2 ^ 31
  pub typed : oid < 2 ^ 32
  pub fits : element_count ds ≡ Some (length vs)

-- the bytes of an array, with any flag word and any negative length for NULL
pub record Form (flag : ℕ) (ds : List ArrayDimension) (oid : ℕ) (vs : List Value) (bs : List ℕ) : Type 0 where
  pub word : flag < 2 ^ 32
  pub last : List ℕ
  pub whole : bs ≡ array_bytes flag ds oid last
  pub row : Row Nullable vs last

-- opening and reading to the end gives this flag, these dimensions, this OID and these elements
pub record Opens (bs : List ℕ) (nulls : Bool) (ds : List ArrayDimension) (oid : ℕ) (vs : List Value) : Type 0 where
  pub opened : Opened
  pub opens : array_recv bs ≡ Ok opened
  pub flag : opened.nulls ≡ nulls
  pub type : opened.oid ≡ oid
  pub dimensions : Reads read_dimension (at_dimensions opened) ds
  pub items : Reads read_nullable (at_values opened) vs

-- the bytes of a sound array are opened and read to the end as it
abbrev pub ReadsBack : List ℕ → Type 0
ReadsBack bs = (flag : ℕ) (ds : List ArrayDimension) (oid : ℕ) (vs : List Value) → Sound ds oid vs → Form flag ds oid vs bs → Opens bs (not (flag == 0)) ds oid vs

-- bytes that are opened and read to the end are those of a sound array
abbrev pub OnlyForms : List ℕ → Type 0
OnlyForms bs = (o : Opened) (vs : List Value) → array_recv bs ≡ Ok o → Reads read_nullable (at_values o) vs → (flag : ℕ) × ((ds : List ArrayDimension) × (Form flag ds o.oid vs bs × Sound ds o.oid vs × (o.nulls ≡ not (flag == 0))))

-- what was written for a sound array is opened and read to the end as it
abbrev pub WrittenBack : List ArrayDimension → ℕ → List Value → Type 0
WrittenBack ds oid vs = Sound ds oid vs → Opens (array_layout ds oid vs) (has_null vs) ds oid vs

-- what an array can be written of: dimensions of signed words, a count of them that fits, an OID, and payloads that a length word counts
pub record Writable (ds : List ArrayDimension) (oid : ℕ) (vs : List Value) : Type 0 where
  pub words : AllByRecursion Words ds
  pub few : length ds < 2 ^ 31
  pub typed : oid < 2 ^ 32
  pub short : AllByRecursion (λ v. Within 2147483647 (Ok v)) vs

-- no other dimensions, OID or elements have these bytes
abbrev pub Distinct : List ArrayDimension → ℕ → List Value → Type 0
Distinct ds oid vs = Writable ds oid vs → (cs : List ArrayDimension) (type : ℕ) (ws : List Value) → Writable cs type ws → array_layout cs type ws ≡ array_layout ds oid vs → (cs ≡ ds) × (type ≡ oid) × (ws ≡ vs)
