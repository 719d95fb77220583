-- What ties writing and reading points and boxes together.
use Rattle.std.specs.Prelude.{◌≡◌, ℕ, ◌^◌, ◌<◌, true, List, ◌++◌, Ok}
use Rattle.std.specs.Float.{binary64}
use Rattle.std.specs.Float.Ieee.{fits}
use Rattle.double.specs.declared.point.Box.{Box}
use Rattle.double.specs.declared.point.Point.{Point}
use Rattle.double.specs.Doubles.{word_double}
use Rattle.double.specs.Points.{point}
use Rattle.wire.specs.Words.{be}
use Rattle.geometry.specs.Layout.{point_layout, box_layout}
use Rattle.geometry.specs.Recv.{point_recv, box_recv}

-- the bytes of a point: two words, of which its coordinates are the doubles; the NaN has many words
pub record PointForm (p : Point) (bs : List ℕ) : Type 0 where
  pub x_word : ℕ
  pub y_word : ℕ
  pub x_fits : x_word < 2 ^ 64
  pub y_fits : y_word < 2 ^ 64
  pub is : p ≡ point (word_double x_word) (word_double y_word)
  pub bytes : bs ≡ be 8 x_word ++ be 8 y_word

-- the bytes of a box: those of its corners
pub record BoxForm (b : Box) (bs : List ℕ) : Type 0 where
  pub upper : List ℕ
  pub lower : List ℕ
  pub upper_form : PointForm b.upper_right upper
  pub lower_form : PointForm b.lower_left lower
  pub bytes : bs ≡ upper ++ lower

-- the bytes of a point or a box are read as it, and only such bytes are read
abbrev pub PointReads : List ℕ → Type 0
PointReads bs = (p : Point) → (PointForm p bs → point_recv bs ≡ Ok p) × (point_recv bs ≡ Ok p → PointForm p bs)

abbrev pub BoxReads : List ℕ → Type 0
BoxReads bs = (b : Box) → (BoxForm b bs → box_recv bs ≡ Ok b) × (box_recv bs ≡ Ok b → BoxForm b bs)

-- the coordinates are doubles
abbrev pub Doubles : Point → Type 0
Doubles p = (fits binary64 p.x ≡ true) × (fits binary64 p.y ≡ true)

-- no other point, or box, has these bytes
abbrev pub PointDistinct : Point → Type 0
PointDistinct p = (q : Point) → Doubles q → point_layout q ≡ point_layout p → q ≡ p

abbrev pub BoxDistinct : Box → Type 0
BoxDistinct b = (c : Box) → Doubles c.upper_right → Doubles c.lower_left → box_layout c ≡ box_layout b → c ≡ b
