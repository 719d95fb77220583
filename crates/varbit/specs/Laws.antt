-- What ties writing and reading a bit string together.
use Rattle.std.specs.Prelude.{◌≡◌, ℕ, ◌^◌, ◌<◌, List, length, Ok}
use Rattle.varbit.specs.Layout.{begun, varbit_layout}
use Rattle.varbit.specs.Recv.{varbit_recv}

-- with the right number of bytes, what was written is read as it is
abbrev pub WrittenBack : ℕ → List ℕ → Type 0
WrittenBack bits bytes = bits < 2 ^ 31 → length bytes ≡ begun bits → varbit_recv (varbit_layout bits bytes) ≡ Ok (bits, bytes)

-- no other count or bytes, padding included, have these bytes
abbrev pub Distinct : ℕ → List ℕ → Type 0
Distinct bits bytes = bits < 2 ^ 31 → (n : ℕ) (bs : List ℕ) → n < 2 ^ 31 → varbit_layout n bs ≡ varbit_layout bits bytes → (n ≡ bits) × (bs ≡ bytes)

-- bytes that are read are the layout of what is answered, with the right number of bytes
abbrev pub OnlyLayouts : List ℕ → Type 0
OnlyLayouts bs = (n : ℕ) (bytes : List ℕ) → varbit_recv bs ≡ Ok (n, bytes) → (bs ≡ varbit_layout n bytes) × (length bytes ≡ begun n) × (n < 2 ^ 31)
