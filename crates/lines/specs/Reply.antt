-- The answer to a line, for any requests and any limit on its length.
use Rattle.std.specs.Prelude.{ℕ, cond, List, length, Some, None, Option, nat_le}
use Rattle.answers.specs.Plain.{bad_request}
use Rattle.syntax.specs.Parsed.{split_at}

-- the answer by the words of a line: a name and what follows it, or one word alone
abbrev pub on_words : (List ℕ → List ℕ → List ℕ) → (List ℕ → List ℕ) → List ℕ → Option (List ℕ × List ℕ) → List ℕ
on_words named alone line (Some p) = named p.0 p.1
on_words named alone line None = alone line

-- a line that is longer than the limit is a bad request
abbrev pub reply_to : ℕ → (List ℕ → List ℕ → List ℕ) → (List ℕ → List ℕ) → List ℕ → List ℕ
reply_to longest named alone line = cond (nat_le (length line) longest) (on_words named alone line (split_at 32 line)) bad_request
