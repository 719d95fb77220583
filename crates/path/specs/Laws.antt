-- What ties writing, opening and reading a path together.
use Rattle.std.specs.Prelude.{◌≡◌, ℕ, ◌^◌, ◌<◌, Bool, not, List, length, Ok, ◌==◌}
use Rattle.std.specs.List.{AllByRecursion}
use Rattle.double.specs.declared.point.Point.{Point}
use Rattle.geometry.specs.Laws.{Doubles, PointForm}
use Rattle.wire.specs.Cursor.{Reads, Row}
use Rattle.path.specs.Layout.{path_bytes, path_layout}
use Rattle.path.specs.Recv.{Opened, path_recv, read_point, at_points}

-- the bytes of a path, with any closed byte and any words of the NaN
pub record Form (byte : ℕ) (ps : List Point) (bs : List ℕ) : Type 0 where
  pub small : byte < 256
  pub few : length ps < 2 ^ 31
  pub last : List ℕ
  pub whole : bs ≡ path_bytes byte (length ps) last
  pub row : Row PointForm ps last

-- opening and reading to the end gives whether it is closed, and these points
pub record Opens (bs : List ℕ) (closed : Bool) (ps : List Point) : Type 0 where
  pub opened : Opened
  pub opens : path_recv bs ≡ Ok opened
  pub ends : opened.closed ≡ closed
  pub items : Reads read_point (at_points opened) ps

-- the bytes of a path are opened and read to the end as it
abbrev pub ReadsBack : List ℕ → Type 0
ReadsBack bs = (byte : ℕ) (ps : List Point) → Form byte ps bs → Opens bs (not (byte == 0)) ps

-- bytes that are opened and read to the end are those of a path
abbrev pub OnlyForms : List ℕ → Type 0
OnlyForms bs = (o : Opened) (ps : List Point) → path_recv bs ≡ Ok o → Reads read_point (at_points o) ps → (byte : ℕ) × (Form byte ps bs × (o.closed ≡ not (byte == 0)))

-- what was written is opened and read to the end as it was handed in
abbrev pub WrittenBack : Bool → List Point → Type 0
WrittenBack closed ps = length ps < 2 ^ 31 → AllByRecursion Doubles ps → Opens (path_layout closed ps) closed ps

-- no other path has these bytes
abbrev pub Distinct : Bool → List Point → Type 0
Distinct closed ps = length ps < 2 ^ 31 → AllByRecursion Doubles ps → (c : Bool) (qs : List Point) → length qs < 2 ^ 31 → AllByRecursion Doubles qs → path_layout c qs ≡ path_layout closed ps → (c ≡ closed) × (qs ≡ ps)
