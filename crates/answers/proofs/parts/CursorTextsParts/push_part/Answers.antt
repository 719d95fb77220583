use Rattle.std.proofs.Common.{◌≡◌, ◌++◌, Some, Ok, Err, vec_items, sym, ap, ◌∙◌, rules}
use Rattle.std.proofs.lemmas.List.{append_assoc}
use Rattle.wire.specs.Cursor.{step}
use Rattle.wire.specs.Cursors.{state, told_next}
use Rattle.answers.specs.Parts.{comma, part_text, goes_on}
use Rattle.answers.specs.Plain.{failure}
use Rattle.answers.proofs.parts.CursorTextsParts.push_part.Goals as goal

pub returns-in_ok-push-in-Ok-Some : goal.returns-in_ok-push-in-Ok-Some
returns-in_ok-push-in-Ok-Some g c =
    let out = vec_items c.args.out.now in
    let first = c.args.first in
    let item = c.in-Ok-Some.item in
    let s = state c.args.self.now.cursor in
    let claim : g.claim c.lifetimes = search rules in
    let shown = (g.met.T.PartText c.lifetimes claim).shows s c.next.result c.next.ensures.answer in
    let is : c.next.result ≡ Ok (Some item) = cc in
    let a = (step g.T.PartText.reads s).0 in
    let answer : a ≡ Ok (Some (g.T.PartText.text item)) = sym shown.0 ∙ ap (told_next g.T.PartText.text) is in
    let added = c.in_ok-push-in-Ok-Some.ensures ∙ ap (λ l. l ++ g.T.PartText.text item) c.in_ok-push_comma-in-Ok-Some.ensures in
    (added ∙ append_assoc out (comma first) (g.T.PartText.text item) ∙ ap (λ b. out ++ part_text first b) (sym answer), sym (ap goes_on answer), c.next.ensures.after ∙ shown.1)

pub returns-in_ok-push_failure-in-Err : goal.returns-in_ok-push_failure-in-Err
returns-in_ok-push_failure-in-Err g c =
    let out = vec_items c.args.out.now in
    let first = c.args.first in
    let f = c.in-Err.fault in
    let s = state c.args.self.now.cursor in
    let claim : g.claim c.lifetimes = search rules in
    let shown = (g.met.T.PartText c.lifetimes claim).shows s c.next.result c.next.ensures.answer in
    let a = (step g.T.PartText.reads s).0 in
    let answer : a ≡ Err f = sym shown.0 ∙ ap (told_next g.T.PartText.text) c.in-Err.is in
    let added = c.in_ok-push_failure-in-Err.ensures ∙ ap (λ l. l ++ failure f) c.in_ok-push_comma-in-Err.ensures in
    (added ∙ append_assoc out (comma first) (failure f) ∙ ap (λ b. out ++ part_text first b) (sym answer), sym (ap goes_on answer), c.next.ensures.after ∙ shown.1)
