-- Reading a text: the end of its longest row of whole characters, by the syntax of RFC 3629, section 4.
use Rattle.std.specs.Prelude.{ℕ, zero, suc, ◌+◌, Bool, true, false, cond, ◌&&◌, List, [], ◌∷◌, length, drop, Ok, Err, Result, ◌==◌, nat_le}
use Rattle.std.specs.Borrow.{Bor}
use Rattle.fault.specs.declared.Fault.{Fault}
use Rattle.fault.specs.declared.Rule.TheVariants.{NotText}
use Rattle.fault.specs.Faults.{fault}

-- the octets that may stand at one place of a character, first and last
pub record Octet : Type 0 where
  pub first : ℕ
  pub last : ℕ

abbrev pub from_to : ℕ → ℕ → Octet
from_to a b = record { first = a; last = b }

-- UTF8-tail
abbrev pub tail_octet : Octet
tail_octet = from_to 0x80 0xBF

-- UTF8-1 to UTF8-4, each alternative a row
abbrev pub alternatives : List (List Octet)
alternatives =
    (from_to 0x00 0x7F ∷ [])
    ∷ (from_to 0xC2 0xDF ∷ tail_octet ∷ [])
    ∷ (from_to 0xE0 0xE0 ∷ from_to 0xA0 0xBF ∷ tail_octet ∷ [])
    ∷ (from_to 0xE1 0xEC ∷ tail_octet ∷ tail_octet ∷ [])
    ∷ (from_to 0xED 0xED ∷ from_to 0x80 0x9F ∷ tail_octet ∷ [])
    ∷ (from_to 0xEE 0xEF ∷ tail_octet ∷ tail_octet ∷ [])
    ∷ (from_to 0xF0 0xF0 ∷ from_to 0x90 0xBF ∷ tail_octet ∷ tail_octet ∷ [])
    ∷ (from_to 0xF1 0xF3 ∷ tail_octet ∷ tail_octet ∷ tail_octet ∷ [])
    ∷ (from_to 0xF4 0xF4 ∷ from_to 0x80 0x8F ∷ tail_octet ∷ tail_octet ∷ [])
    ∷ []

-- whether the bytes begin with a row
abbrev pub begins : List Octet → List ℕ → Bool
begins [] bs = true
begins (o ∷ os) [] = false
begins (o ∷ os) (b ∷ bs) = (nat_le o.first b && nat_le b o.last) && begins os bs

-- the length of the row that the bytes begin with, 0 where there is none
abbrev pub begun : List (List Octet) → List ℕ → ℕ
begun [] bs = 0
begun (r ∷ rs) bs = cond (begins r bs) (length r) (begun rs bs)

-- the length of the character that the bytes begin with, 0 where there is none
unfoldable pub character : List ℕ → ℕ
character bs = begun alternatives bs

-- where the characters end, counted for at most n of them
abbrev pub ends : ℕ → List ℕ → ℕ
ends zero bs = 0
ends (suc n) bs = cond (character bs == 0) 0 (character bs + ends n (drop (character bs) bs))

abbrev pub text_end : List ℕ → ℕ
text_end bs = ends (length bs) bs

-- the text, or a fault at the first byte of the first bad character
abbrev pub text_recv : List ℕ → Result (List ℕ) Fault
text_recv bs = cond (text_end bs == length bs) (Ok bs) (Err (fault NotText (text_end bs)))

-- the bytes behind a reference that was answered
abbrev pub told_text : Result (Bor (List ℕ)) Fault → Result (List ℕ) Fault
told_text (Ok t) = Ok t.now
told_text (Err f) = Err f
