-- The view of a path, as what it stands for.
use Rattle.std.specs.Prelude.{Ok, Err, Result}
use Rattle.fault.specs.declared.Fault.{Fault}
use Rattle.path.specs.declared.read.Path.{Path}
use Rattle.path.specs.Recv.{Opened}

abbrev pub opened : Path → Opened
opened p = record { bytes = p.buf.now; closed = p.closed; count = p.count }

abbrev pub told_path : Result Path Fault → Result Opened Fault
told_path (Ok p) = Ok (opened p)
told_path (Err f) = Err f
