-- Points and boxes, there and back.
use Rattle.std.proofs.Common.{◌≡◌, ℕ, ◌+◌, ◌^◌, ◌<◌, ◌≤◌, T, List, ◌++◌, length, take, drop, Ok, sym, ap, ◌∙◌, subst, arith, take-add}
use lib.Ieee.{binary64}
use lib.Ieee.Bits.{of_bits-to_bits, to_bits-lt}
use Rattle.std.proofs.lemmas.List.{take_all, take-append-drop, length-drop, drop-drop}
use Rattle.double.specs.declared.point.Box.{Box}
use Rattle.double.specs.declared.point.Point.{Point}
use Rattle.double.specs.Doubles.{double_word, word_double}
use Rattle.double.specs.Points.{point, corners}
use Rattle.wire.specs.Bytes.{Octets}
use Rattle.wire.specs.Words.{be, ended, then, u64_at}
use Rattle.wire.proofs.Reading.{word_lt}
use Rattle.wire.proofs.Taking.{then_ok, uint_ok, ended_ok}
use Rattle.wire.proofs.Wording.{number_be, be_word}
use Rattle.geometry.specs.Laws.{PointForm, PointReads, BoxReads, Doubles, PointDistinct, BoxDistinct}
use Rattle.geometry.specs.Layout.{point_layout, box_layout}
use Rattle.geometry.specs.Recv.{point_at, point_recv, box_recv}

-- the words of a point, and of a box
pub point_words : (x y : ℕ) → x < 2 ^ 64 → y < 2 ^ 64 → point_recv (be 8 x ++ be 8 y) ≡ Ok (point (word_double x) (word_double y))
point_words x y p q = let m = number_be 8 x p in let n = number_be 8 y q in rw (m, n)

pub box_words : (x1 y1 x2 y2 : ℕ) → x1 < 2 ^ 64 → y1 < 2 ^ 64 → x2 < 2 ^ 64 → y2 < 2 ^ 64 → box_recv ((be 8 x1 ++ be 8 y1) ++ (be 8 x2 ++ be 8 y2)) ≡ Ok (corners (point (word_double x1) (word_double y1)) (point (word_double x2) (word_double y2)))
box_words x1 y1 x2 y2 p q r s =
    let a = number_be 8 x1 p in
    let b = number_be 8 y1 q in
    let c = number_be 8 x2 r in
    let d = number_be 8 y2 s in
    rw (a, b, c, d)

-- words that were made from coordinates, and that the coordinates come back from
pub point_same : (p : Point) (x y : ℕ) → x ≡ double_word p.x → y ≡ double_word p.y → be 8 x ++ be 8 y ≡ point_layout p
point_same p x y e f = ap (λ n. be 8 n ++ be 8 y) e ∙ ap (λ n. be 8 (double_word p.x) ++ be 8 n) f

pub point_back : (p : Point) (x y : ℕ) → word_double x ≡ p.x → word_double y ≡ p.y → point (word_double x) (word_double y) ≡ p
point_back p x y e f = ap (λ d. point d (word_double y)) e ∙ ap (point p.x) f

-- what a point was read from
pub point_formed : (bs : List ℕ) (at : ℕ) (p : Point) → Octets bs → point_at bs at ≡ Ok p → (at + 16 ≤ length bs) × PointForm p (take 16 (drop at bs))
point_formed bs at p small e =
    let t = then_ok (u64_at bs at) (λ x. then (u64_at bs (at + 8)) (λ y. Ok (point (word_double x) (word_double y)))) p e in
    let u = then_ok (u64_at bs (at + 8)) (λ y. Ok (point (word_double t.0) (word_double y))) p t.2 in
    let x = uint_ok 8 bs at t.0 t.1 in
    let y = uint_ok 8 bs (at + 8) u.0 u.1 in
    let made : point (word_double t.0) (word_double u.0) ≡ p = let q = u.2 in cc in
    let cut : take 16 (drop at bs) ≡ be 8 t.0 ++ be 8 u.0 =
    take-add 8 8 (drop at bs)
    ∙ ap (λ l. take 8 (drop at bs) ++ take 8 l) (drop-drop 8 at bs)
    ∙ ap (λ l. l ++ take 8 (drop (at + 8) bs)) (sym (be_word 8 bs at small x.0) ∙ ap (be 8) x.1)
    ∙ ap (λ l. be 8 t.0 ++ l) (sym (be_word 8 bs (at + 8) small y.0) ∙ ap (be 8) y.1) in (
      omega (arith, y.0),
      record {
        x_word = t.0;
        y_word = u.0;
        x_fits = subst (λ n. n < 2 ^ 64) x.1 (word_lt 8 bs at small x.0);
        y_fits = subst (λ n. n < 2 ^ 64) y.1 (word_lt 8 bs (at + 8) small y.0);
        is = sym made;
        bytes = cut;
      },
    )

pub point_reads : (bs : List ℕ) → Octets bs → PointReads bs
point_reads bs small p = (
  λ f. ap point_recv f.bytes ∙ point_words f.x_word f.y_word f.x_fits f.y_fits ∙ ap Ok (sym f.is),
  λ e.
      let t = then_ok (point_at bs 0) (ended bs 16) p e in
      let w = ended_ok bs 16 t.0 p t.2 in
      let f = point_formed bs 0 t.0 small t.1 in
      subst (λ l. PointForm p l) (take_all 16 bs w.0) (subst (λ q. PointForm q (take 16 bs)) w.1 f.1),
)

pub box_reads : (bs : List ℕ) → Octets bs → BoxReads bs
box_reads bs small b = (
  λ f.
      let u = f.upper_form in
      let l = f.lower_form in
      let corner : corners (point (word_double u.x_word) (word_double u.y_word)) (point (word_double l.x_word) (word_double l.y_word)) ≡ b
      = ap (λ p. corners p (point (word_double l.x_word) (word_double l.y_word))) (sym u.is) ∙ ap (corners b.upper_right) (sym l.is) in
      ap box_recv (f.bytes ∙ ap (λ e. e ++ f.lower) u.bytes ∙ ap (λ e. (be 8 u.x_word ++ be 8 u.y_word) ++ e) l.bytes)
      ∙ box_words u.x_word u.y_word l.x_word l.y_word u.x_fits u.y_fits l.x_fits l.y_fits
      ∙ ap Ok corner,
  λ e.
      let t = then_ok (point_at bs 0) (λ p. then (point_at bs 16) (λ q. ended bs 32 (corners p q))) b e in
      let u = then_ok (point_at bs 16) (λ q. ended bs 32 (corners t.0 q)) b t.2 in
      let w = ended_ok bs 32 (corners t.0 u.0) b u.2 in
      let first = point_formed bs 0 t.0 small t.1 in
      let second = point_formed bs 16 u.0 small u.1 in
      let short : length (drop 16 bs) ≤ 16 = simp length-drop (omega (arith, w.0)) in
      let parts : bs ≡ take 16 bs ++ take 16 (drop 16 bs) = sym (take-append-drop 16 bs) ∙ ap (λ l. take 16 bs ++ l) (sym (take_all 16 (drop 16 bs) short)) in
      record {
        upper = take 16 bs;
        lower = take 16 (drop 16 bs);
        upper_form = subst (λ p. PointForm p (take 16 bs)) (ap (λ c. c.upper_right) w.1) first.1;
        lower_form = subst (λ p. PointForm p (take 16 (drop 16 bs))) (ap (λ c. c.lower_left) w.1) second.1;
        bytes = parts;
      },
)

-- a point of doubles is read from its layout
pub point_read : (p : Point) → Doubles p → point_recv (point_layout p) ≡ Ok p
point_read p d =
    let fx = subst T (sym d.0) tt in
    let fy = subst T (sym d.1) tt in
    point_words (double_word p.x) (double_word p.y) (to_bits-lt binary64 p.x fx) (to_bits-lt binary64 p.y fy)
    ∙ ap Ok (point_back p (double_word p.x) (double_word p.y) (of_bits-to_bits binary64 p.x fx) (of_bits-to_bits binary64 p.y fy))

-- so is a box
pub box_read : (b : Box) → Doubles b.upper_right → Doubles b.lower_left → box_recv (box_layout b) ≡ Ok b
box_read b d e =
    let fx = subst T (sym d.0) tt in
    let fy = subst T (sym d.1) tt in
    let gx = subst T (sym e.0) tt in
    let gy = subst T (sym e.1) tt in
    let upper = b.upper_right in
    let lower = b.lower_left in
    box_words (double_word upper.x) (double_word upper.y) (double_word lower.x) (double_word lower.y) (to_bits-lt binary64 upper.x fx) (to_bits-lt binary64 upper.y fy) (to_bits-lt binary64 lower.x gx) (to_bits-lt binary64 lower.y gy)
    ∙ ap (λ p. Ok (corners p (point (word_double (double_word lower.x)) (word_double (double_word lower.y))))) (point_back upper (double_word upper.x) (double_word upper.y) (of_bits-to_bits binary64 upper.x fx) (of_bits-to_bits binary64 upper.y fy))
    ∙ ap (λ p. Ok (corners upper p)) (point_back lower (double_word lower.x) (double_word lower.y) (of_bits-to_bits binary64 lower.x gx) (of_bits-to_bits binary64 lower.y gy))

pub point_distinct : (p : Point) → point_recv (point_layout p) ≡ Ok p → PointDistinct p
point_distinct p read q d e = let a = point_read q d in let b = ap point_recv e in cc

pub box_distinct : (b : Box) → point_recv (point_layout b.upper_right) ≡ Ok b.upper_right → point_recv (point_layout b.lower_left) ≡ Ok b.lower_left → BoxDistinct b
box_distinct b first second c d f e =
    let upper = point_distinct b.upper_right first c.upper_right d (ap (take 16) e) in
    let lower = point_distinct b.lower_left second c.lower_left f (ap (drop 16) e) in
    ap (λ p. corners p c.lower_left) upper ∙ ap (corners b.upper_right) lower
