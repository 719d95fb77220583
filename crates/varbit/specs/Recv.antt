-- Reading a bit string (varbit_recv).
use Rattle.std.specs.Prelude.{ℕ, ◌+◌, cond, List, length, drop, Ok, Err, Result, nat_le}
use Rattle.fault.specs.declared.Fault.{Fault}
use Rattle.fault.specs.declared.Rule.TheVariants.{Overrun, Trailing}
use Rattle.fault.specs.Faults.{fault}
use Rattle.wire.specs.Words.{then, count_at}
use Rattle.varbit.specs.declared.read.Varbit.{Varbit}
use Rattle.varbit.specs.Layout.{begun}

-- a bit count and the bytes behind it
abbrev pub Bits : Type 0
Bits = ℕ × List ℕ

-- too few bytes are told at the count, too many where they begin
abbrev pub counted : List ℕ → ℕ → Result Bits Fault
counted bs n =
    cond (nat_le (4 + begun n) (length bs))
    (cond (nat_le (length bs) (4 + begun n)) (Ok (n, drop 4 bs)) (Err (fault Trailing (4 + begun n))))
    (Err (fault Overrun 0))

abbrev pub varbit_recv : List ℕ → Result Bits Fault
varbit_recv bs = then (count_at bs 0) (counted bs)

-- the view of the code
abbrev pub seen_bits : Varbit → Bits
seen_bits v = (v.len, v.bytes.now)

abbrev pub told_bits : Result Varbit Fault → Result Bits Fault
told_bits (Ok v) = Ok (seen_bits v)
told_bits (Err f) = Err f
