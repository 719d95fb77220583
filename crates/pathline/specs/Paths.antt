-- The requests that read and write a path.
use Rattle.std.specs.Prelude.{ℕ, Bool, true, false, cond, List, ◌∷◌, ◌++◌, length, Some, None, Ok, Err, codes, Option, Result}
use Rattle.std.specs.Str.{bytes_eq}
use Rattle.answers.specs.Parts.{texts_of, parts_text}
use Rattle.answers.specs.Plain.{bad_request, refused, wrote, flag_text, room}
use Rattle.double.specs.declared.point.Point.{Point}
use Rattle.fault.specs.declared.Fault.{Fault}
use Rattle.listing.specs.Lists.{list_in}
use Rattle.path.specs.Layout.{path_encoding}
use Rattle.path.specs.Recv.{Opened, read_point, at_points}
use Rattle.shapeline.specs.Words.{point_text, point_in}
use Rattle.syntax.specs.Parsed.{split_at}
use Rattle.wire.specs.Encoding.{room_for}

-- path closed=0|1 [W:W,..]
abbrev pub path_text : Opened → List ℕ
path_text o = codes "path closed=" ++ (flag_text o.closed ++ (32 ∷ parts_text (texts_of (point_text 58) read_point) (at_points o)))

abbrev pub path_answer : Result Opened Fault → List ℕ
path_answer (Ok o) = path_text o
path_answer (Err f) = refused f

-- 0 or 1
abbrev pub flag_in : List ℕ → Option Bool
flag_in w = cond (bytes_eq w (codes "0")) (Some false) (cond (bytes_eq w (codes "1")) (Some true) None)

-- what the encoder writes to a part of so many bytes
abbrev pub written : ℕ → Option Bool → Option (List Point) → List ℕ
written n (Some closed) (Some ps) = wrote (room_for n (path_encoding closed ps))
written n (Some closed) None = bad_request
written n None ps = bad_request

abbrev pub path_words : ℕ → Option (List ℕ × List ℕ) → List ℕ
path_words n (Some p) = written n (flag_in p.0) (list_in (point_in 58) p.1)
path_words n None = bad_request

-- 0|1 [W:W,..]
abbrev pub path_written : List ℕ → List ℕ
path_written argument = path_words (room (length argument)) (split_at 32 argument)
