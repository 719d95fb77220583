-- The request `check PILE xB`.
use Rattle.std.specs.Prelude.{ℕ, List, map, Some, None, Ok, Err, codes, Option}
use Rattle.answers.specs.Plain.{bad_request, refused}
use Rattle.pile.specs.Piles.{pile_verdict}
use Rattle.syntax.specs.Parsed.{bytes_in, split_at}
use Rattle.validator.specs.Verdicts.{Outcome, Verdict}
use Rattle.checkline.specs.Bottoms.{bottom_verdict}
use Rattle.checkline.specs.Layers.{named}
use Rattle.checkline.specs.Spelled.{Pile, pile_in}

-- accepted, or refused NUMBER@PLACE/LEVEL
abbrev pub checked : Outcome → List ℕ
checked (Ok u) = codes "accepted"
checked (Err f) = refused f

-- what a pile says of bytes
abbrev pub verdict_of : Pile → Verdict
verdict_of p = pile_verdict (map named p.0) (bottom_verdict p.1)

abbrev pub check_words : Option Pile → Option (List ℕ) → List ℕ
check_words (Some p) (Some bs) = checked (verdict_of p bs)
check_words (Some p) None = bad_request
check_words None bs = bad_request

abbrev pub check_parts : Option (List ℕ × List ℕ) → List ℕ
check_parts (Some p) = check_words (pile_in p.0) (bytes_in p.1)
check_parts None = bad_request

-- PILE xB
abbrev pub check_answer : List ℕ → List ℕ
check_answer argument = check_parts (split_at 32 argument)
