-- A table of at most 64 rows.
use Rattle.std.specs.Prelude.{ℕ, zero, suc, cond, List, [], ◌∷◌, ◌++◌, length, take, Ok, Err, Result, nat_lt}
use Rattle.fault.specs.declared.Fault.{Fault}
use Rattle.fault.specs.declared.Rule.TheVariants.{Missing, TableFull}
use Rattle.fault.specs.Faults.{fault}
use Rattle.rows.specs.declared.table.Table.{Table}

-- the rows that stand
abbrev pub rows_of : {R : Type 0} → Table R → List R
rows_of t = take t.used t.rows

-- where 64 stand, a row is refused
abbrev pub told_added : {R : Type 0} → List R → Result (Unit {0}) Fault
told_added rs = cond (nat_lt (length rs) 64) (Ok tt) (Err (fault TableFull 64))

-- else it is the last
abbrev pub added : {R : Type 0} → List R → R → List R
added rs r = cond (nat_lt (length rs) 64) (rs ++ (r ∷ [])) rs

-- row k of rows the first of which is row n
abbrev pub row_from : {R : Type 0} → ℕ → ℕ → List R → Result R Fault
row_from n k [] = Err (fault Missing n)
row_from n zero (r ∷ rs) = Ok r
row_from n (suc k) (r ∷ rs) = row_from n k rs

-- row k, or a fault at k
abbrev pub row_at : {R : Type 0} → List R → ℕ → Result R Fault
row_at rs k = row_from k k rs
