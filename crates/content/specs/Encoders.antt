-- What is written for each kind of column, or the first broken rule; and serializers of one item.
use Rattle.std.specs.Prelude.{ℕ, zero, suc, Bool, List, [], ◌∷◌, map, length, Ok, Err, slice_index_or}
use Rattle.fault.specs.declared.Fault.{Fault}
use Rattle.array.specs.declared.dimension.ArrayDimension.{ArrayDimension}
use Rattle.array.specs.Layout.{array_layout}
use Rattle.double.specs.declared.point.Point.{Point}
use Rattle.hstore.specs.declared.entry.HstoreEntry.{HstoreEntry}
use Rattle.hstore.specs.Layout.{hstore_layout}
use Rattle.inet.specs.declared.address.IpAddr.{IpAddr}
use Rattle.inet.specs.Layout.{inet_layout}
use Rattle.path.specs.Layout.{path_layout}
use Rattle.range.specs.declared.bound.RangeBound.{RangeBound}
use Rattle.range.specs.Layout.{range_layout}
use Rattle.serializer.specs.Lists.{Short, item_at, values}
use Rattle.texts.specs.Places.{Bytes}
use Rattle.varbit.specs.Layout.{varbit_layout}
use Rattle.wire.specs.Encoding.{Encoding}
use Rattle.wire.specs.Items.{Item}
use Rattle.wire.specs.Words.{then}
use Rattle.rows.specs.Windows.{above, above_short}
use Rattle.content.specs.Rules.{few, array_rule, range_bounds, hstore_entries, varbit_rule, inet_rule}

abbrev pub array_content : ℕ → List ArrayDimension → List Item → Encoding
array_content oid ds is = then (array_rule ds is) (λ _. Ok (array_layout ds oid (values is)))

abbrev pub range_content : RangeBound ℕ → RangeBound ℕ → List Item → Encoding
range_content lower upper is = then (range_bounds lower upper is) (λ p. Ok (range_layout p.0 p.1))

abbrev pub hstore_content : Bytes → List HstoreEntry → Encoding
hstore_content ps es = then (hstore_entries ps es) (λ xs. Ok (hstore_layout xs))

abbrev pub varbit_content : ℕ → List ℕ → Encoding
varbit_content bits bytes = then (varbit_rule bits (length bytes)) (λ _. Ok (varbit_layout bits bytes))

abbrev pub path_content : Bool → List Point → Encoding
path_content closed ps = then (few (length ps)) (λ _. Ok (path_layout closed ps))

abbrev pub inet_content : IpAddr → ℕ → Encoding
inet_content a mask = then (inet_rule a mask) (λ _. Ok (inet_layout a mask))

-- payloads stay short
pub only_short : (i : Item) → Short i → (k : ℕ) → Short (item_at (i ∷ []) k)
only_short i h zero = h
only_short i h (suc k) = tt

raised_at : (is : List Item) (k : ℕ) (f g : Fault) → Short (slice_index_or is k (Err g)) → Short (slice_index_or (map above is) k (Err f))
raised_at [] k f g h = tt
raised_at (i ∷ is) zero f g h = above_short i h
raised_at (i ∷ is) (suc k) f g h = raised_at is k f g h

pub raised_short : (is : List Item) → ((k : ℕ) → Short (item_at is k)) → (k : ℕ) → Short (item_at (map above is) k)
raised_short is short k = raised_at is k _ _ (short k)
