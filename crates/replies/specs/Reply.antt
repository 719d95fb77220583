-- The line protocol: one request, one answer.
use Rattle.std.specs.Prelude.{ℕ, cond, List, [], ◌∷◌, Ok, codes}
use Rattle.std.specs.Str.{bytes_eq}
use Rattle.addressline.specs.Addresses.{text_answer, inet_answer, inet_in}
use Rattle.answers.specs.Plain.{bad_request, wrote, answered}
use Rattle.array.specs.Recv.{array_recv}
use Rattle.arrayline.specs.Arrays.{array_answer, array_written}
use Rattle.checkline.specs.Answers.{check_answer}
use Rattle.geometry.specs.Recv.{point_recv, box_recv}
use Rattle.hstore.specs.Recv.{hstore_recv}
use Rattle.hstoreline.specs.Hstores.{hstore_answer, hstore_written}
use Rattle.inet.specs.Layout.{inet_layout}
use Rattle.inet.specs.Recv.{inet_recv}
use Rattle.lines.specs.Reply as lines
use Rattle.naming.specs.Names.{named}
use Rattle.listing.specs.Answers.{element_list_answer, texts_answer}
use Rattle.path.specs.Recv.{path_recv}
use Rattle.pathline.specs.Paths.{path_answer, path_written}
use Rattle.range.specs.Layout.{empty_layout}
use Rattle.range.specs.Recv.{range_recv}
use Rattle.rangeline.specs.Ranges.{range_answer, range_written}
use Rattle.record.specs.Recv.{record_recv}
use Rattle.recordline.specs.Records.{record_answer}
use Rattle.shapeline.specs.Bits.{varbit_answer, varbit_written}
use Rattle.shapeline.specs.Shapes.{point_answer, point_written, box_answer, box_written}
use Rattle.syntax.specs.Parsed.{bytes_in, split_at}
use Rattle.text.specs.Recv.{text_recv}
use Rattle.varbit.specs.Recv.{varbit_recv}

-- the answer to a request without an argument
abbrev pub alone_to : List ℕ → List ℕ
alone_to name = cond (bytes_eq name (codes "empty_range_to_sql")) (wrote (Ok empty_layout)) bad_request

-- the requests by their names, each with its answer to what follows the name: those that read a value, those
-- that write one, those that show the items of a serializer, and the one that checks a value
abbrev pub requests : List ℕ → List (List ℕ × List ℕ)
requests rest =
    (codes "text_from_sql", answered (λ bs. text_answer (text_recv bs)) (bytes_in rest))
    ∷ (codes "array_from_sql", answered (λ bs. array_answer (array_recv bs)) (bytes_in rest))
    ∷ (codes "range_from_sql", answered (λ bs. range_answer (range_recv bs)) (bytes_in rest))
    ∷ (codes "hstore_from_sql", answered (λ bs. hstore_answer (hstore_recv bs)) (bytes_in rest))
    ∷ (codes "varbit_from_sql", answered (λ bs. varbit_answer (varbit_recv bs)) (bytes_in rest))
    ∷ (codes "point_from_sql", answered (λ bs. point_answer (point_recv bs)) (bytes_in rest))
    ∷ (codes "box_from_sql", answered (λ bs. box_answer (box_recv bs)) (bytes_in rest))
    ∷ (codes "path_from_sql", answered (λ bs. path_answer (path_recv bs)) (bytes_in rest))
    ∷ (codes "inet_from_sql", answered (λ bs. inet_answer (inet_recv bs)) (bytes_in rest))
    ∷ (codes "record_from_sql", answered (λ bs. record_answer (record_recv bs)) (bytes_in rest))
    ∷ (codes "array_to_sql", array_written rest)
    ∷ (codes "range_to_sql", range_written rest)
    ∷ (codes "hstore_to_sql", hstore_written rest)
    ∷ (codes "varbit_to_sql", varbit_written rest)
    ∷ (codes "point_to_sql", point_written rest)
    ∷ (codes "box_to_sql", box_written rest)
    ∷ (codes "path_to_sql", path_written rest)
    ∷ (codes "inet_to_sql", answered (λ i. wrote (Ok (inet_layout i.addr i.netmask))) (inet_in rest))
    ∷ (codes "element_list", element_list_answer (split_at 32 rest))
    ∷ (codes "texts", texts_answer (split_at 32 rest))
    ∷ (codes "check", check_answer rest)
    ∷ []

-- the answer to a request with this name and what follows it
abbrev pub answer_to : List ℕ → List ℕ → List ℕ
answer_to name rest = named bad_request (requests rest) name

-- a line longer than 1,048,576 bytes is a bad request
abbrev pub reply_to : List ℕ → List ℕ
reply_to line = lines.reply_to 1048576 answer_to alone_to line
