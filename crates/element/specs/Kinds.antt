-- What the kinds of elements mean.
use Rattle.std.specs.Prelude.{◌++◌, ℤ, Some, None, Ok, Option, Float}
use Rattle.std.proofs.Common.{lit≤, of_z}
use Rattle.std.specs.Int.{w64}
use Rattle.double.specs.declared.point.Point.{Point}
use Rattle.double.specs.Doubles.{double_word}
use Rattle.wire.specs.Items.{Within}
use Rattle.wire.specs.Words.{Value, be, int}
use Rattle.element.specs.declared.kinds.DoubleWord.{DoubleWord}
use Rattle.element.specs.declared.kinds.PointWords.{PointWords}

-- four and eight bytes in two's complement
abbrev pub int4 : ℤ → Value
int4 z = Some (int z)

abbrev pub int8 : ℤ → Value
int8 z = Some (be 8 (of_z w64 z))

-- the eight bytes of a double, the sixteen of a point
abbrev pub float8 : DoubleWord → Value
float8 d = Some (be 8 d.word)

abbrev pub point16 : PointWords → Value
point16 p = Some (be 8 p.x ++ be 8 p.y)

abbrev pub word_of : Float → DoubleWord
word_of x = record { word = double_word x }

abbrev pub words_of : Point → PointWords
words_of p = record { x = double_word p.x; y = double_word p.y }

-- an absent element is NULL
abbrev pub optional : {X : Type 0} → (X → Value) → Option X → Value
optional value None = None
optional value (Some x) = value x

-- none of these passes 64 bytes
pub int4_small : (z : ℤ) → Within 64 (Ok (int4 z))
int4_small z = lit≤ tt

pub int8_small : (z : ℤ) → Within 64 (Ok (int8 z))
int8_small z = lit≤ tt

pub float8_small : (d : DoubleWord) → Within 64 (Ok (float8 d))
float8_small d = lit≤ tt

pub point16_small : (p : PointWords) → Within 64 (Ok (point16 p))
point16_small p = lit≤ tt

pub optional_small : {X : Type 0} (value : X → Value) → ((x : X) → Within 64 (Ok (value x))) → (o : Option X) → Within 64 (Ok (optional value o))
optional_small value small None = tt
optional_small value small (Some x) = small x
