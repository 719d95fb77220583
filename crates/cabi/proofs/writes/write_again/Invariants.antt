use Rattle.std.proofs.Common.{◌≡◌, length, Ok}
use Rattle.wire.specs.Encoding.{Encoding, told, laid, room_for}
use Rattle.cabi.proofs.writes.write_again.Given as goal

-- the part is as one write of what it was leaves it
abbrev pub invariant-loop : goal.invariant-loop
invariant-loop g l =
    goal.F-IsAlwaysCallable g l.write
    × ((e : Encoding)
    → ((p : _) (r : _) (q : _) → goal.F-post g l.write p r q → (r ≡ told (room_for (length p.now) e)) × (q.now ≡ laid (room_for (length p.now) e) p.now))
    → (Ok l.size ≡ told (room_for (length l.fn.part) e)) × (l.part ≡ laid (room_for (length l.fn.part) e) l.fn.part))
