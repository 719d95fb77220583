-- Reading has one result: two columns of the same kind that read from the same value are equal.
use Rattle.std.proofs.Common.{◌≡◌, ℕ, Bool, List, ◌∷◌, Some, None, sym, refl, ap, ◌∙◌, subst}
use Rattle.array.specs.declared.dimension.ArrayDimension.{ArrayDimension}
use Rattle.array.specs.Laws as arrays
use Rattle.array.specs.Recv.{read_dimension, at_dimensions, at_values}
use Rattle.content.specs.Held.{Held, an_item, an_array, a_range, an_hstore, a_varbit, a_point, a_box, a_path, an_inet}
use Rattle.double.specs.declared.point.Point.{Point}
use Rattle.hstore.specs.Laws as hstores
use Rattle.hstore.specs.Layout.{Entry}
use Rattle.hstore.specs.Recv.{read_entry}
use Rattle.inet.specs.Recv.{inet}
use Rattle.path.specs.Laws as paths
use Rattle.path.specs.Recv as path
use Rattle.range.specs.declared.bound.RangeBound.{RangeBound}
use Rattle.record.specs.Layout.{Column}
use Rattle.record.specs.Recv.{read_column}
use Rattle.record.proofs.Same.{reads_same}
use Rattle.wire.specs.Cursor.{Reads, read_nullable}
use Rattle.wire.specs.Words.{Value}
use Rattle.agreement.specs.Book.{Book}
use Rattle.agreement.specs.Reading as reading
use Rattle.agreement.specs.Reading.{ReadsAs, ColumnsAs, SameKind, SameKinds}

-- an array
same_array : (bs : List ℕ) {f g : Bool} {ds es : List ArrayDimension} {o p : ℕ} {vs ws : List Value} → arrays.Opens bs f ds o vs → arrays.Opens bs g es p ws → an_array o ds vs ≡ an_array p es ws
same_array bs {ds = ds} {es = es} {o = o} {p = p} {vs = vs} {ws = ws} a b =
    let ok = sym a.opens ∙ b.opens in
    let is : a.opened ≡ b.opened = cc in
    let oids : o ≡ p = sym a.type ∙ ap (λ x. x.oid) is ∙ b.type in
    let dims : ds ≡ es = reads_same read_dimension a.dimensions (subst (λ x. Reads read_dimension (at_dimensions x) es) (sym is) b.dimensions) in
    let vals : vs ≡ ws = reads_same read_nullable a.items (subst (λ x. Reads read_nullable (at_values x) ws) (sym is) b.items) in
    ap (λ x. an_array x ds vs) oids ∙ ap (λ x. an_array p x vs) dims ∙ ap (λ x. an_array p es x) vals

same_hstore : (bs : List ℕ) {es fs : List Entry} → hstores.Opens bs es → hstores.Opens bs fs → es ≡ fs
same_hstore bs {fs = fs} a b =
    let ok = sym a.opens ∙ b.opens in
    let is : a.start ≡ b.start = cc in
    reads_same read_entry a.items (subst (λ s. Reads read_entry s fs) (sym is) b.items)

same_path : (bs : List ℕ) {c d : Bool} {ps qs : List Point} → paths.Opens bs c ps → paths.Opens bs d qs → a_path c ps ≡ a_path d qs
same_path bs {c = c} {d = d} {ps = ps} {qs = qs} a b =
    let ok = sym a.opens ∙ b.opens in
    let is : a.opened ≡ b.opened = cc in
    let ends : c ≡ d = sym a.ends ∙ ap (λ x. x.closed) is ∙ b.ends in
    let pts : ps ≡ qs = reads_same path.read_point a.items (subst (λ x. Reads path.read_point (path.at_points x) qs) (sym is) b.items) in
    ap (λ x. a_path x ps) ends ∙ ap (λ x. a_path d x) pts

pub same_held : {h g : Held} (v : Value) → SameKind h g → ReadsAs h v → ReadsAs g v → h ≡ g
same_held v reading.nulls a b = refl
same_held v reading.items a b = ap an_item (sym a ∙ b)
same_held (Some bs) reading.arrays a b = same_array bs a b
same_held None reading.arrays a b = absurd a
same_held (Some bs) (reading.ranges {l = l} {u = u} {m = m} {v = w}) a b =
    let ok = sym a ∙ b in
    let pair : ◌≡◌ {A = RangeBound Value × RangeBound Value} (l, u) (m, w) = cc in
    ap (λ x. a_range x.0 x.1) pair
same_held None reading.ranges a b = absurd a
same_held v reading.empty_ranges a b = refl
same_held (Some bs) reading.hstores a b = ap an_hstore (same_hstore bs a b)
same_held None reading.hstores a b = absurd a
same_held (Some bs) (reading.varbits {m = m} {n = n} {bs = xs} {cs = ys}) a b =
    let ok = sym a ∙ b in
    let pair : ◌≡◌ {A = ℕ × List ℕ} (m, xs) (n, ys) = cc in
    ap (λ x. a_varbit x.0 x.1) pair
same_held None reading.varbits a b = absurd a
same_held (Some bs) (reading.points {p = p} {q = q}) a b = let ok = sym a ∙ b in let same : p ≡ q = cc in ap a_point same
same_held None reading.points a b = absurd a
same_held (Some bs) (reading.boxes {a = x} {b = y}) a b = let ok = sym a ∙ b in let same : x ≡ y = cc in ap a_box same
same_held None reading.boxes a b = absurd a
same_held (Some bs) reading.paths a b = same_path bs a b
same_held None reading.paths a b = absurd a
same_held (Some bs) (reading.inets {a = x} {b = y} {m = m} {n = n}) a b =
    let ok = sym a ∙ b in
    let same : inet x m ≡ inet y n = cc in
    ap (λ i. an_inet i.addr i.netmask) same
same_held None reading.inets a b = absurd a

-- the same columns read as one book
columns_same : {b c : Book} {cs ds : List Column} → SameKinds b c → ColumnsAs b cs → ColumnsAs c ds → cs ≡ ds → b ≡ c
columns_same reading.none reading.none reading.none e = refl
columns_same (reading.one k ks) (reading.one {oid = o} {h = h} {v = v} {b = b} {cs = cs} r rs) (reading.one {oid = w} {h = g} {v = u} {b = c} {cs = ds} t ts) e =
    let heads : ◌≡◌ {A = Column} (o, v) (w, u) = cc in
    let tails : cs ≡ ds = cc in
    let oids : o ≡ w = ap (λ x. x.0) heads in
    let vals : v ≡ u = ap (λ x. x.1) heads in
    let held = same_held v k r (subst (ReadsAs g) (sym vals) t) in
    ap (λ x. (x, h) ∷ b) oids ∙ ap (λ x. (w, x) ∷ b) held ∙ ap (λ x. (w, g) ∷ x) (columns_same ks rs ts tails)

pub same_book : (bs : List ℕ) {b c : Book} → SameKinds b c → reading.SheetReads bs b → reading.SheetReads bs c → b ≡ c
same_book bs kinds a d =
    let ok = sym a.opens.opens ∙ d.opens.opens in
    let is : a.opens.start ≡ d.opens.start = cc in
    let same = reads_same read_column a.opens.items (subst (λ s. Reads read_column s d.columns) (sym is) d.opens.items) in
    columns_same kinds a.each d.each same
