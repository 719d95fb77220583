-- Bytes, and bytes written over others.
use Rattle.std.specs.Prelude.{ℕ, ◌+◌, ◌<◌, List, ◌++◌, length, take, drop}
use Rattle.std.specs.List.{AllByRecursion}

-- every number is a byte
abbrev pub Octets : List ℕ → Type 0
Octets bs = AllByRecursion (λ b. b < 256) bs

-- ws over the bytes from `at` on
abbrev pub put : ℕ → List ℕ → List ℕ → List ℕ
put at ws bs = take at bs ++ (ws ++ drop (at + length ws) bs)

-- ws over the first bytes
abbrev pub over : List ℕ → List ℕ → List ℕ
over ws bs = ws ++ drop (length ws) bs
