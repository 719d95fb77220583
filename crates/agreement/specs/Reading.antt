-- Reading a sheet: the record cursor, then for each column the view and cursor of its kind, to the end.
use Rattle.std.specs.Prelude.{◌≡◌, ℕ, Bool, List, [], ◌∷◌, Some, None, Ok}
use Rattle.array.specs.declared.dimension.ArrayDimension.{ArrayDimension}
use Rattle.array.specs.Laws as array
use Rattle.array.specs.Layout.{has_null}
use Rattle.content.specs.Held.{Held, no_value, an_item, an_array, a_range, the_empty_range, an_hstore, a_varbit, a_point, a_box, a_path, an_inet}
use Rattle.double.specs.declared.point.Box.{Box}
use Rattle.double.specs.declared.point.Point.{Point}
use Rattle.geometry.specs.Recv.{point_recv, box_recv}
use Rattle.hstore.specs.Laws as hstore
use Rattle.hstore.specs.Layout.{Entry}
use Rattle.inet.specs.declared.address.IpAddr.{IpAddr}
use Rattle.inet.specs.Recv.{inet, inet_recv}
use Rattle.path.specs.Laws as path
use Rattle.range.specs.declared.bound.RangeBound.{RangeBound}
use Rattle.range.specs.Recv.{range_recv}
use Rattle.record.specs.Laws as record_laws
use Rattle.record.specs.Layout.{Column}
use Rattle.varbit.specs.Recv.{varbit_recv}
use Rattle.wire.specs.Words.{Value}
use Rattle.agreement.specs.Book.{Book}

-- a value that is a payload with this property
abbrev pub Payload : (List ℕ → Type 0) → Value → Type 0
Payload P None = ⊥
Payload P (Some bs) = P bs

-- a value read by the view of its kind, and its cursor to the end, gives what a column holds
abbrev pub ReadsAs : Held → Value → Type 0
ReadsAs no_value v = v ≡ None
ReadsAs (an_item w) v = v ≡ w
ReadsAs (an_array oid ds vs) v = Payload (λ bs. array.Opens bs (has_null vs) ds oid vs) v
ReadsAs (a_range l u) v = Payload (λ bs. range_recv bs ≡ Ok (Some (l, u))) v
ReadsAs the_empty_range v = Payload (λ bs. range_recv bs ≡ Ok None) v
ReadsAs (an_hstore es) v = Payload (λ bs. hstore.Opens bs es) v
ReadsAs (a_varbit n bytes) v = Payload (λ bs. varbit_recv bs ≡ Ok (n, bytes)) v
ReadsAs (a_point p) v = Payload (λ bs. point_recv bs ≡ Ok p) v
ReadsAs (a_box b) v = Payload (λ bs. box_recv bs ≡ Ok b) v
ReadsAs (a_path closed ps) v = Payload (λ bs. path.Opens bs closed ps) v
ReadsAs (an_inet a mask) v = Payload (λ bs. inet_recv bs ≡ Ok (inet a mask)) v

-- columns of a record that read as those of a book, in order, OID and all
pub data ColumnsAs : Book → List Column → Type 0 where
  none : ColumnsAs [] []
  one : {oid : ℕ} {h : Held} {v : Value} {b : Book} {cs : List Column} → ReadsAs h v → ColumnsAs b cs → ColumnsAs ((oid, h) ∷ b) ((oid, v) ∷ cs)

-- the bytes of a sheet read as a book: the record is opened and read to the end, and each column as what it holds
pub record SheetReads (bs : List ℕ) (b : Book) : Type 0 where
  pub columns : List Column
  pub opens : record_laws.Opens bs columns
  pub each : ColumnsAs b columns

-- columns of the same kind
pub data SameKind : Held → Held → Type 0 where
  nulls : SameKind no_value no_value
  items : {v w : Value} → SameKind (an_item v) (an_item w)
  arrays : {o p : ℕ} {ds es : List ArrayDimension} {vs ws : List Value} → SameKind (an_array o ds vs) (an_array p es ws)
  ranges : {l u m v : RangeBound Value} → SameKind (a_range l u) (a_range m v)
  empty_ranges : SameKind the_empty_range the_empty_range
  hstores : {es fs : List Entry} → SameKind (an_hstore es) (an_hstore fs)
  varbits : {m n : ℕ} {bs cs : List ℕ} → SameKind (a_varbit m bs) (a_varbit n cs)
  points : {p q : Point} → SameKind (a_point p) (a_point q)
  boxes : {a b : Box} → SameKind (a_box a) (a_box b)
  paths : {c d : Bool} {ps qs : List Point} → SameKind (a_path c ps) (a_path d qs)
  inets : {a b : IpAddr} {m n : ℕ} → SameKind (an_inet a m) (an_inet b n)

-- books of the same kinds in the same order
pub data SameKinds : Book → Book → Type 0 where
  none : SameKinds [] []
  one : {o p : ℕ} {h g : Held} {b c : Book} → SameKind h g → SameKinds b c → SameKinds ((o, h) ∷ b) ((p, g) ∷ c)
