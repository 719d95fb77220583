-- Reading an array (array_recv): its head with all dimensions, then its elements.
use Rattle.std.specs.Prelude.{ℕ, zero, suc, ◌+◌, ◌*◌, ◌^◌, Bool, cond, not, List, take, Ok, Err, Result, ◌==◌, nat_lt}
use Rattle.fault.specs.declared.Fault.{Fault}
use Rattle.fault.specs.declared.Rule.TheVariants.{Product}
use Rattle.fault.specs.Faults.{fault}
use Rattle.wire.specs.Cursor.{State, Reader, before}
use Rattle.wire.specs.Words.{then, u32_at, i32_at, count_at}
use Rattle.array.specs.declared.dimension.ArrayDimension.{ArrayDimension}

-- an opened array: its bytes, how many dimensions, where its elements begin, its flag, its element OID and how many elements
pub record Opened : Type 0 where
  pub bytes : List ℕ
  pub count : ℕ
  pub start : ℕ
  pub nulls : Bool
  pub oid : ℕ
  pub elements : ℕ

-- the product up to a dimension, whose length stands at a place
abbrev pub product_at : ℕ → ℕ → Result ℕ Fault
product_at at p = cond (nat_lt p (2 ^ 31)) (Ok p) (Err (fault Product at))

-- the product of n dimensions from a place on, each tested once its lower bound is read
abbrev pub product_from : ℕ → List ℕ → ℕ → ℕ → Result ℕ Fault
product_from zero bs at p = Ok p
product_from (suc n) bs at p = then (count_at bs at) (λ len. then (i32_at bs (at + 4)) (λ lower. then (product_at at (p * len)) (λ q. product_from n bs (at + 8) q)))

-- without dimensions there are no elements
abbrev pub opened_with : List ℕ → ℕ → ℕ → ℕ → ℕ → Opened
opened_with bs n flag oid p = record { bytes = bs; count = n; start = 12 + 8 * n; nulls = not (flag == 0); oid = oid; elements = cond (n == 0) 0 p }

abbrev pub array_recv : List ℕ → Result Opened Fault
array_recv bs = then (count_at bs 0) (λ n. then (u32_at bs 4) (λ flag. then (u32_at bs 8) (λ oid. then (product_from n bs 12 1) (λ p. Ok (opened_with bs n flag oid p)))))

-- a dimension at a place
abbrev pub read_dimension : Reader ArrayDimension
read_dimension bs at = then (i32_at bs at) (λ len. then (i32_at bs (at + 4)) (λ lower. Ok (record { len = len; lower_bound = lower }, 8)))

-- cursors over the dimensions, which end where the elements begin, and over the elements
abbrev pub at_dimensions : Opened → State
at_dimensions o = before (take o.start o.bytes) 12 o.count

abbrev pub at_values : Opened → State
at_values o = before o.bytes o.start o.elements
