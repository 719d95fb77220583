-- Text by RFC 3629: the octets of Unicode scalar values, one character behind another.
use Rattle.std.specs.Prelude.{◌≡◌, ℕ, ◌+◌, ◌/◌, ◌%◌, ◌<◌, ◌≤◌, cond, ◌⊎◌, List, [], ◌∷◌, length, take, nat_lt}
use Rattle.std.specs.List.{flat_map, AllByRecursion}

-- a Unicode scalar value: at most 10FFFF, and none of the surrogates D800 to DFFF
abbrev pub Scalar : ℕ → Type 0
Scalar c = (c < 0xD800) ⊎ ((0xE000 ≤ c) × (c ≤ 0x10FFFF))

-- an octet behind the first holds six bits
abbrev pub tail : ℕ → ℕ
tail bits = 0x80 + bits % 64

-- the octets of a character: 0000 to 007F one, to 07FF two, to FFFF three, to 10FFFF four
abbrev pub octets : ℕ → List ℕ
octets c =
    cond (nat_lt c 0x80) (c ∷ [])
    (cond (nat_lt c 0x800) ((0xC0 + c / 64) ∷ tail c ∷ [])
    (cond (nat_lt c 0x10000) ((0xE0 + c / 4096) ∷ tail (c / 64) ∷ tail c ∷ [])
    ((0xF0 + c / 262144) ∷ tail (c / 4096) ∷ tail (c / 64) ∷ tail c ∷ [])))

-- bytes that are such characters in a row
abbrev pub Text : List ℕ → Type 0
Text bs = (cs : List ℕ) × AllByRecursion Scalar cs × (flat_map octets cs ≡ bs)

-- n is where the longest row of whole characters ends
pub record Longest (bs : List ℕ) (n : ℕ) : Type 0 where
  pub within : n ≤ length bs
  pub whole : Text (take n bs)
  pub most : (m : ℕ) → m ≤ length bs → Text (take m bs) → m ≤ n
