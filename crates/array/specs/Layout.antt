-- The layout of an array (array_send).
use Rattle.std.specs.Prelude.{ℕ, Bool, true, false, cond, ◌||◌, List, [], ◌∷◌, ◌++◌, length, Some, None}
use Rattle.std.specs.List.{flat_map}
use Rattle.wire.specs.Items.{nullable}
use Rattle.wire.specs.Words.{Value, be, int}
use Rattle.array.specs.declared.dimension.ArrayDimension.{ArrayDimension}

-- length and lower bound
abbrev pub dimension : ArrayDimension → List ℕ
dimension d = int d.len ++ int d.lower_bound

abbrev pub dimensions : List ArrayDimension → List ℕ
dimensions ds = flat_map dimension ds

-- each element behind its length word
abbrev pub elements : List Value → List ℕ
elements vs = flat_map nullable vs

abbrev pub is_null : Value → Bool
is_null None = true
is_null (Some bs) = false

abbrev pub has_null : List Value → Bool
has_null [] = false
has_null (v ∷ vs) = is_null v || has_null vs

-- number of dimensions, flag word, element OID, dimensions, elements
abbrev pub array_bytes : ℕ → List ArrayDimension → ℕ → List ℕ → List ℕ
array_bytes flag ds oid es = be 4 (length ds) ++ (be 4 flag ++ (be 4 oid ++ (dimensions ds ++ es)))

-- as it is written: the flag is 1 exactly when an element is NULL
abbrev pub array_layout : List ArrayDimension → ℕ → List Value → List ℕ
array_layout ds oid vs = array_bytes (cond (has_null vs) 1 0) ds oid (elements vs)
