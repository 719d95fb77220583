-- The columns of a record that is read, as what they stand for.
use Rattle.std.specs.Prelude.{ℕ, List, Option}
use Rattle.std.specs.Borrow.{Bor}
use Rattle.std.specs.Option.{option_map}
use Rattle.record.specs.Layout.{Column}

-- OID and value behind the reference that was answered
abbrev pub seen_column : ℕ × Option (Bor (List ℕ)) → Column
seen_column p = (p.0, option_map (λ x. x.now) p.1)
