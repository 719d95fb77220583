-- What is written.
use Rattle.std.specs.Prelude.{◌≡◌, ℕ, ◌-◌, ◌^◌, ◌⊎◌, List, ℤ, pos, Some}
use Rattle.array.specs.declared.dimension.ArrayDimension.{ArrayDimension}
use Rattle.double.specs.declared.point.Point.{Point}
use Rattle.hstore.specs.declared.entry.HstoreEntry.{HstoreEntry}
use Rattle.texts.specs.Places.{Place}
use Rattle.texts.specs.declared.place.Pool.TheVariants.{House}
use Rattle.wire.specs.Encoding.{Encoding, told, laid}
use Rattle.cabi.specs.declared.writes.Pair.{Pair}
use Rattle.cabi.specs.declared.writes.Parts.{Parts}
use Rattle.cabi.specs.Sums.{number}

-- a dimension from 1 on
abbrev pub dimension_of : ℤ → ArrayDimension
dimension_of len = record { len = len; lower_bound = pos 1 }

abbrev pub point_of : Pair → Point
point_of p = record { x = p.x; y = p.y }

abbrev pub place_of : ℕ → ℕ → Place
place_of start length = Some (record { pool = House; start = start; length = length })

abbrev pub entry_of : Parts → HstoreEntry
entry_of p = record { key = place_of p.key p.key_length; value = place_of p.value p.value_length }

-- the answer and the part are as the encoder says; or the heap gave no memory, and nothing is written
abbrev pub Wrote : Encoding → List ℕ → ℕ → List ℕ → Type 0
Wrote e part r after = ((r ≡ number (told e)) × (after ≡ laid e part)) ⊎ ((r ≡ 2 ^ 64 - 1) × (after ≡ part))
