-- What the program writes for an input.
use Rattle.std.specs.Prelude.{ℕ, List, Option, IfSome}
use Rattle.std.specs.Io.KnownBytes.{Appends}
use Rattle.lines.specs.Lines.{answers_to}
use Rattle.replies.specs.Reply.{reply_to}

-- where the input's bytes are known: the wide protocol's answers to all its lines, in order, and nothing else
abbrev pub AllAnswered : Option (List ℕ) → Option (List ℕ) → Option (List ℕ) → Type 0
AllAnswered unread wrote written = IfSome unread (λ bs. Appends wrote written (answers_to reply_to bs))
