-- Reading a network address (inet_recv): the value, or the first fault.
use Rattle.std.specs.Prelude.{ℕ, ◌+◌, cond, List, length, Ok, Err, Result, ◌==◌, nat_le, slice_index}
use Rattle.fault.specs.declared.Fault.{Fault}
use Rattle.fault.specs.declared.Rule.TheVariants.{Truncated, Trailing, Mask, Octets, Family}
use Rattle.fault.specs.Faults.{fault}
use Rattle.wire.specs.Words.{word}
use Rattle.inet.specs.declared.address.Inet.{Inet}
use Rattle.inet.specs.declared.address.IpAddr.{IpAddr}
use Rattle.inet.specs.declared.address.IpAddr.TheVariants.{V4, V6}

abbrev pub inet : IpAddr → ℕ → Inet
inet a mask = record { addr = a; netmask = mask }

-- the mask, once all that stands behind a known family is right: mask, number of octets, octets, nothing more
abbrev pub mask_of : ℕ → ℕ → List ℕ → Result ℕ Fault
mask_of widest count bs =
    cond (nat_le (slice_index bs 1) widest)
    (cond (slice_index bs 3 == count)
    (cond (nat_le (4 + count) (length bs))
    (cond (nat_le (length bs) (4 + count)) (Ok (slice_index bs 1)) (Err (fault Trailing (4 + count))))
    (Err (fault Truncated 4)))
    (Err (fault Octets 3)))
    (Err (fault Mask 1))

abbrev pub masked : IpAddr → Result ℕ Fault → Result Inet Fault
masked a (Ok mask) = Ok (inet a mask)
masked a (Err f) = Err f

-- the first four bytes are read, then comes the family
abbrev pub inet_recv : List ℕ → Result Inet Fault
inet_recv bs =
    cond (nat_le 4 (length bs))
    (cond (slice_index bs 0 == 2) (masked (V4 (word 4 bs 4)) (mask_of 32 4 bs))
    (cond (slice_index bs 0 == 3) (masked (V6 (word 8 bs 4) (word 8 bs 12)) (mask_of 128 16 bs)) (Err (fault Family 0))))
    (Err (fault Truncated (length bs)))
