-- What the octets of a character tell.
use Rattle.std.specs.Prelude.{ℕ, ◌≤◌, cond, ◌==◌, nat_lt, Option, None, Some}
use Rattle.text.specs.Utf8.{Scalar}

-- how many octets the first one announces, 0 where it begins no character
abbrev pub announced : ℕ → ℕ
announced b = cond (nat_lt b 0x80) 1 (cond (nat_lt b 0xC0) 0 (cond (nat_lt b 0xE0) 2 (cond (nat_lt b 0xF0) 3 (cond (nat_lt b 0xF8) 4 0))))

-- a length, none for 0
abbrev pub counted : ℕ → Option ℕ
counted n = cond (n == 0) None (Some n)

-- an octet behind the first
abbrev pub Tail : ℕ → Type 0
Tail b = (0x80 ≤ b) × (b ≤ 0xBF)

-- a Unicode scalar value that needs a form which is for `least` and above
abbrev pub Shortest : ℕ → ℕ → Type 0
Shortest least c = (least ≤ c) × Scalar c
