-- Words as bare payloads (int4recv, int8recv).
use Rattle.std.specs.Prelude.{◌≡◌, ℕ, ◌↔◌, List, ℤ, Ok, Result, FitsSigned}
use Rattle.std.specs.Int.{Width, w32, w64}
use Rattle.std.proofs.Common.{of_z}
use Rattle.fault.specs.declared.Fault.{Fault}
use Rattle.wire.specs.Words.{then, ended, be, i32_at, i64_at}

abbrev pub int4_recv : List ℕ → Result ℤ Fault
int4_recv bs = then (i32_at bs 0) (ended bs 4)

abbrev pub int8_recv : List ℕ → Result ℤ Fault
int8_recv bs = then (i64_at bs 0) (ended bs 8)

-- bytes are read as a number exactly when they are the number in two's complement, the most significant byte first
abbrev pub Exactly : Width → ℕ → (List ℕ → Result ℤ Fault) → List ℕ → Type 0
Exactly w n recv bs = (z : ℤ) → (recv bs ≡ Ok z) ↔ (FitsSigned w z × (bs ≡ be n (of_z w z)))

abbrev pub Int4Exactly : List ℕ → Type 0
Int4Exactly bs = Exactly w32 4 int4_recv bs

abbrev pub Int8Exactly : List ℕ → Type 0
Int8Exactly bs = Exactly w64 8 int8_recv bs
