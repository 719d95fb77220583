-- The rules that belong to one call, before those that all calls share.
use Rattle.std.specs.Prelude.{ℕ, ◌+◌, ◌*◌, ◌^◌, cond, List, [], ◌∷◌, length, ℤ, pos, negsuc, Ok, Err, Result, ◌==◌, nat_le, nat_lt}
use Rattle.std.specs.Option.{option_map}
use Rattle.fault.specs.declared.Fault.{Fault}
use Rattle.fault.specs.declared.Rule.TheVariants.{Mask, TooGreat, Dimensions, BitBytes}
use Rattle.fault.specs.Faults.{fault, raise}
use Rattle.array.specs.declared.dimension.ArrayDimension.{ArrayDimension}
use Rattle.hstore.specs.declared.entry.HstoreEntry.{HstoreEntry}
use Rattle.hstore.specs.Encoding.{keys_there, entry_texts}
use Rattle.hstore.specs.Layout.{Entry}
use Rattle.inet.specs.declared.address.IpAddr.{IpAddr}
use Rattle.inet.specs.Layout.{widest}
use Rattle.range.specs.declared.bound.RangeBound.{RangeBound}
use Rattle.range.specs.Encoding.{bound_item}
use Rattle.serializer.specs.Lists.{first_fault, refused_or}
use Rattle.texts.specs.Places.{Bytes}
use Rattle.varbit.specs.Layout.{begun}
use Rattle.wire.specs.Items.{Item}
use Rattle.wire.specs.Words.{Value, then}
use Rattle.rows.specs.Windows.{above}

-- a rule is kept, or broken by one fault
abbrev pub Kept : Type 0
Kept = Result (Unit {0}) Fault

-- a count that a signed word holds
abbrev pub few : ℕ → Kept
few n = cond (nat_lt n (2 ^ 31)) (Ok tt) (Err (fault TooGreat 0))

-- the product up to dimension i: the dimension is bad where its length is negative or the product too great
abbrev pub factor : ℕ → ℕ → ℤ → Result ℕ Fault
factor i p (pos n) = cond (nat_lt (p * n) (2 ^ 31)) (Ok (p * n)) (Err (fault Dimensions i))
factor i p (negsuc n) = Err (fault Dimensions i)

-- the product of dimensions from the left, the first of them dimension i
abbrev pub product_of : ℕ → ℕ → List ArrayDimension → Result ℕ Fault
product_of i p [] = Ok p
product_of i p (d ∷ ds) = then (factor i p d.len) (λ q. product_of (i + 1) q ds)

-- dimensions that make so many items; no dimensions make none
abbrev pub dimensions_fit : List ArrayDimension → ℕ → Kept
dimensions_fit ds n = then (product_of 0 1 ds) (λ p. cond (cond (length ds == 0) 0 p == n) (Ok tt) (Err (fault Dimensions (length ds))))

-- the dimensions, then the items from the first on, then the number of dimensions
abbrev pub array_rule : List ArrayDimension → List Item → Kept
array_rule ds is = then (dimensions_fit ds (length is)) (λ _. refused_or (option_map raise (first_fault is)) (few (length ds)))

-- the bounds with their items, lower before upper; a fault of the serializer is seen from above
abbrev pub range_bounds : RangeBound ℕ → RangeBound ℕ → List Item → Result (RangeBound Value × RangeBound Value) Fault
range_bounds lower upper is = above (then (bound_item is lower) (λ l. then (bound_item is upper) (λ u. Ok (l, u))))

-- the entries by their texts: an absent key, then the texts, then the number of entries
abbrev pub hstore_entries : Bytes → List HstoreEntry → Result (List Entry) Fault
hstore_entries ps es = then (keys_there 0 es) (λ _. then (entry_texts ps 0 es) (λ xs. then (few (length es)) (λ _. Ok xs)))

-- one byte for each eight bits begun
abbrev pub bytes_fit : ℕ → ℕ → Kept
bytes_fit bits n = cond (n == begun bits) (Ok tt) (Err (fault BitBytes 0))

-- the number of bytes, then the bit count
abbrev pub varbit_rule : ℕ → ℕ → Kept
varbit_rule bits n = then (bytes_fit bits n) (λ _. few bits)

-- a mask of the address's family
abbrev pub inet_rule : IpAddr → ℕ → Kept
inet_rule a mask = cond (nat_le mask (widest a)) (Ok tt) (Err (fault Mask 0))
