-- The layout of a network address (inet_send).
use Rattle.std.specs.Prelude.{ℕ, ◌^◌, ◌<◌, List, ◌∷◌, ◌++◌, length}
use Rattle.wire.specs.Words.{be}
use Rattle.inet.specs.declared.address.IpAddr.{IpAddr}
use Rattle.inet.specs.declared.address.IpAddr.TheVariants.{V4, V6}

-- the number of the address family
abbrev pub family : IpAddr → ℕ
family (V4 a) = 2
family (V6 high low) = 3

-- the longest mask of the family
abbrev pub widest : IpAddr → ℕ
widest (V4 a) = 32
widest (V6 high low) = 128

-- the octets of the address, the most significant first
abbrev pub octets : IpAddr → List ℕ
octets (V4 a) = be 4 a
octets (V6 high low) = be 8 high ++ be 8 low

-- family, mask, a byte that readers ignore, number of octets, octets
abbrev pub inet_bytes : ℕ → IpAddr → ℕ → List ℕ
inet_bytes ignored a mask = family a ∷ mask ∷ ignored ∷ length (octets a) ∷ octets a

-- as it is written
abbrev pub inet_layout : IpAddr → ℕ → List ℕ
inet_layout a mask = inet_bytes 0 a mask

-- the numbers of an address fit their words
abbrev pub Whole : IpAddr → Type 0
Whole (V4 a) = a < 2 ^ 32
Whole (V6 high low) = (high < 2 ^ 64) × (low < 2 ^ 64)
