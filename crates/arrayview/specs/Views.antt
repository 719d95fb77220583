-- The view of an array, as what it stands for.
use Rattle.std.specs.Prelude.{Ok, Err, Result}
use Rattle.fault.specs.declared.Fault.{Fault}
use Rattle.array.specs.Recv.{Opened}
use Rattle.arrayview.specs.declared.read.Array.{Array}

abbrev pub opened : Array → Opened
opened a = record { bytes = a.buf.now; count = a.count; start = a.start; nulls = a.nulls; oid = a.oid; elements = a.elements }

abbrev pub told_array : Result Array Fault → Result Opened Fault
told_array (Ok a) = Ok (opened a)
told_array (Err f) = Err f
