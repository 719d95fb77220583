-- The requests that read and write a bit string.
use Rattle.std.specs.Prelude.{ℕ, ◌-◌, ◌^◌, List, ◌∷◌, ◌++◌, length, Some, None, Ok, Err, codes, decimal, Option, Result}
use Rattle.answers.specs.Plain.{bad_request, refused, wrote, room}
use Rattle.fault.specs.declared.Fault.{Fault}
use Rattle.syntax.specs.Parsed.{bytes_in, number_in, split_at}
use Rattle.syntax.specs.Printed.{byte_string}
use Rattle.varbit.specs.Layout.{varbit_encoding}
use Rattle.varbit.specs.Recv.{Bits}
use Rattle.wire.specs.Encoding.{room_for}

-- varbit bits=N xB
abbrev pub varbit_answer : Result Bits Fault → List ℕ
varbit_answer (Ok p) = codes "varbit bits=" ++ (decimal p.0 ++ (32 ∷ byte_string p.1))
varbit_answer (Err f) = refused f

-- what the encoder writes to a part of so many bytes
abbrev pub written : ℕ → Option ℕ → Option (List ℕ) → List ℕ
written n (Some bits) (Some bytes) = wrote (room_for n (varbit_encoding bits bytes))
written n (Some bits) None = bad_request
written n None bytes = bad_request

abbrev pub bits_words : ℕ → Option (List ℕ × List ℕ) → List ℕ
bits_words n (Some p) = written n (number_in (2 ^ 64 - 1) p.0) (bytes_in p.1)
bits_words n None = bad_request

-- BITS xB
abbrev pub varbit_written : List ℕ → List ℕ
varbit_written argument = bits_words (room (length argument)) (split_at 32 argument)
