use Rattle.std.proofs.Common.{◌≡◌, ℕ, ◌+◌, ◌<◌, get_or, length, take, drop, Some, sym, ap, ◌∙◌, add-one, rules}
use Rattle.std.proofs.lemmas.List.{take_rest}
use Rattle.syntax.proofs.Parsing.{split_found, split_none}
use Rattle.syntax.proofs.parse.split_at_first.Goals as goal

pub returns-in_err-at : goal.returns-in_err-at
returns-in_err-at c =
    let bs = c.args.text.now in
    let none : (k : ℕ) → k < length bs → get_or bs k 0 ≡ c.args.separator → ⊥ = search rules in
    search rules ∙ sym (split_none c.args.separator bs none)

pub returns : goal.returns
returns c =
    let bs = c.args.text.now in
    let at = c.in_ok-at.at in
    let before : (k : ℕ) → k < at → get_or bs k 0 ≡ c.args.separator → ⊥ = search rules in
    ap (λ l. Some (take at bs, l)) (take_rest bs (at + 1) ∙ ap (λ n. drop n bs) (add-one at))
    ∙ sym (split_found c.args.separator bs at (search rules) before (search rules))
