use Rattle.std.proofs.Common.{◌++◌, codes, sym, ap, ◌∙◌}
use Rattle.std.proofs.lemmas.List.{append_assoc}
use Rattle.std.proofs.lemmas.Slice.{pushed}
use Rattle.range.specs.Recv.{seen_bound, seen_range}
use Rattle.rangeline.specs.Ranges.{bound_text, range_text}
use Rattle.rangeline.proofs.requests.print_range.Goals as goal

pub returns-in_ok-push_bound-in-Nonempty-2 : goal.returns-in_ok-push_bound-in-Nonempty-2
returns-in_ok-push_bound-in-Nonempty-2 c =
    let lower = bound_text (seen_bound c.in-Nonempty.lower) in
    let upper = bound_text (seen_bound c.in-Nonempty.upper) in
    let first = c.in_ok-push_bound-in-Nonempty.ensures ∙ ap (λ l. l ++ lower) c.in_ok-out-in-Nonempty.ensures.items in
    let named = pushed (codes " upper=") first c.in_ok-extend_from_slice-in-Nonempty.was c.extend_from_slice.ensures.items in
    c.in_ok-push_bound-in-Nonempty-2.ensures
    ∙ ap (λ l. l ++ upper) named
    ∙ append_assoc (codes "range lower=" ++ lower) (codes " upper=") upper
    ∙ append_assoc (codes "range lower=") lower (codes " upper=" ++ upper)
    ∙ ap (λ r. range_text (seen_range r)) (sym c.in-Nonempty.is)
