-- The line protocol: one request, one answer.
use Rattle.std.specs.Prelude.{ℕ, List, [], ◌∷◌, Ok, codes}
use Rattle.addressline.specs.Addresses.{text_answer, inet_answer, inet_in}
use Rattle.answers.specs.Plain.{bad_request, wrote, answered}
use Rattle.inet.specs.Layout.{inet_layout}
use Rattle.inet.specs.Recv.{inet_recv}
use Rattle.lines.specs.Reply as lines
use Rattle.listing.specs.Answers.{element_list_answer, texts_answer}
use Rattle.naming.specs.Names.{named}
use Rattle.syntax.specs.Parsed.{bytes_in, split_at}
use Rattle.text.specs.Recv.{text_recv}

-- the requests by their names, each with its answer to what follows the name
abbrev pub requests : List ℕ → List (List ℕ × List ℕ)
requests rest =
    (codes "text_from_sql", answered (λ bs. text_answer (text_recv bs)) (bytes_in rest))
    ∷ (codes "inet_from_sql", answered (λ bs. inet_answer (inet_recv bs)) (bytes_in rest))
    ∷ (codes "inet_to_sql", answered (λ i. wrote (Ok (inet_layout i.addr i.netmask))) (inet_in rest))
    ∷ (codes "element_list", element_list_answer (split_at 32 rest))
    ∷ (codes "texts", texts_answer (split_at 32 rest))
    ∷ []

-- the answer to a request with this name and what follows it
abbrev pub answer_to : List ℕ → List ℕ → List ℕ
answer_to name rest = named bad_request (requests rest) name

-- a line longer than 65,536 bytes is a bad request, and so is a word alone
abbrev pub reply_to : List ℕ → List ℕ
reply_to line = lines.reply_to 65536 answer_to (λ _. bad_request) line
