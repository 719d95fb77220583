-- How the words of a request are read.
use Rattle.std.specs.Prelude.{◌≡◌, ℕ, ◌+◌, ◌-◌, ◌*◌, cond, ◌&&◌, List, [], ◌∷◌, Some, None, Option, ◌==◌, nat_le}
use Rattle.std.specs.Borrow.{Bor}
use Rattle.std.specs.Option.{option_map}
use Rattle.wire.specs.Bytes.{Octets}
use Rattle.syntax.specs.Printed.{byte_string}

-- the number that a hexadecimal digit stands for; capital letters are none
abbrev pub nibble : ℕ → Option ℕ
nibble c = cond (nat_le 48 c && nat_le c 57) (Some (c - 48)) (cond (nat_le 97 c && nat_le c 102) (Some (c - 87)) None)

-- two digits make a byte
abbrev pub byte_of : Option ℕ → Option ℕ → Option ℕ
byte_of (Some high) (Some low) = Some (high * 16 + low)
byte_of (Some high) None = None
byte_of None (Some low) = None
byte_of None None = None

abbrev pub in_front : Option ℕ → Option (List ℕ) → Option (List ℕ)
in_front (Some b) (Some bs) = Some (b ∷ bs)
in_front (Some b) None = None
in_front None (Some bs) = None
in_front None None = None

-- the bytes that digits stand for, two to a byte
abbrev pub unhex : List ℕ → Option (List ℕ)
unhex [] = Some []
unhex (a ∷ []) = None
unhex (a ∷ b ∷ cs) = in_front (byte_of (nibble a) (nibble b)) (unhex cs)

-- a byte string is x and its digits
abbrev pub bytes_in : List ℕ → Option (List ℕ)
bytes_in [] = None
bytes_in (c ∷ cs) = cond (c == 120) (unhex cs) None

-- what is printed is read back
abbrev pub ReadsBack : List ℕ → Type 0
ReadsBack bs = Octets bs → bytes_in (byte_string bs) ≡ Some bs

-- one more decimal digit
abbrev pub with_digit : Option ℕ → ℕ → Option ℕ
with_digit (Some n) c = cond (nat_le 48 c && nat_le c 57) (Some (n * 10 + (c - 48))) None
with_digit None c = None

abbrev pub number_after : Option ℕ → List ℕ → Option ℕ
number_after o [] = o
number_after o (c ∷ cs) = number_after (with_digit o c) cs

abbrev pub at_most : ℕ → Option ℕ → Option ℕ
at_most most (Some n) = cond (nat_le n most) (Some n) None
at_most most None = None

-- a decimal number up to a limit: digits alone, and at least one
abbrev pub number_in : ℕ → List ℕ → Option ℕ
number_in most [] = None
number_in most (c ∷ cs) = at_most most (number_after (Some 0) (c ∷ cs))

-- what stands before and behind the first separator
abbrev pub widened : ℕ → Option (List ℕ × List ℕ) → Option (List ℕ × List ℕ)
widened c (Some p) = Some (c ∷ p.0, p.1)
widened c None = None

abbrev pub split_at : ℕ → List ℕ → Option (List ℕ × List ℕ)
split_at sep [] = None
split_at sep (c ∷ cs) = cond (c == sep) (Some ([], cs)) (widened c (split_at sep cs))

-- the parts behind two references
abbrev pub seen_pair : Option (Bor (List ℕ) × Bor (List ℕ)) → Option (List ℕ × List ℕ)
seen_pair o = option_map (λ p. (p.0.now, p.1.now)) o
