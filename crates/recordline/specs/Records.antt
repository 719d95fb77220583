-- The request that reads a record.
use Rattle.std.specs.Prelude.{ℕ, List, ◌∷◌, ◌++◌, Ok, Err, codes, decimal, Result}
use Rattle.answers.specs.Parts.{texts_of, parts_text}
use Rattle.answers.specs.Plain.{refused, value_text}
use Rattle.fault.specs.declared.Fault.{Fault}
use Rattle.record.specs.Layout.{Column}
use Rattle.record.specs.Recv.{read_column}
use Rattle.wire.specs.Cursor.{State}

-- OID=xB or OID=NULL
abbrev pub column_text : Column → List ℕ
column_text c = decimal c.0 ++ (61 ∷ value_text c.1)

-- record [OID=xB,OID=NULL,..]
abbrev pub record_text : State → List ℕ
record_text s = codes "record " ++ parts_text (texts_of column_text read_column) s

abbrev pub record_answer : Result State Fault → List ℕ
record_answer (Ok s) = record_text s
record_answer (Err f) = refused f
