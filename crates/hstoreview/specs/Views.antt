-- The entries of an hstore that is read, as what they stand for.
use Rattle.std.specs.Prelude.{ℕ, List, Option}
use Rattle.std.specs.Borrow.{Bor}
use Rattle.std.specs.Option.{option_map}
use Rattle.hstore.specs.Layout.{Entry}

-- key and value behind the references that were answered
abbrev pub seen_entry : Bor (List ℕ) × Option (Bor (List ℕ)) → Entry
seen_entry p = (p.0.now, option_map (λ x. x.now) p.1)
