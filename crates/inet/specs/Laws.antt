-- What ties reading and writing a network address together.
use Rattle.std.specs.Prelude.{◌≡◌, ℕ, ◌≤◌, List, Ok, slice_index}
use Rattle.inet.specs.declared.address.Inet.{Inet}
use Rattle.inet.specs.declared.address.IpAddr.{IpAddr}
use Rattle.inet.specs.Layout.{Whole, widest, inet_bytes, inet_layout}
use Rattle.inet.specs.Recv.{inet, inet_recv}

-- the bytes of an address with a mask of its family are read as they are, whatever the ignored byte
abbrev pub ReadsBack : IpAddr → ℕ → Type 0
ReadsBack a mask = mask ≤ widest a → (ignored : ℕ) → inet_recv (inet_bytes ignored a mask) ≡ Ok (inet a mask)

-- no other address or mask has these bytes
abbrev pub Distinct : IpAddr → ℕ → Type 0
Distinct a mask = (b : IpAddr) (m : ℕ) → Whole b → inet_layout b m ≡ inet_layout a mask → (b ≡ a) × (m ≡ mask)

-- bytes that are accepted are the layout of what is answered, but for the ignored byte
abbrev pub LaidOut : List ℕ → Type 0
LaidOut bs = (i : Inet) → inet_recv bs ≡ Ok i → (bs ≡ inet_bytes (slice_index bs 2) i.addr i.netmask) × (i.netmask ≤ widest i.addr) × Whole i.addr
