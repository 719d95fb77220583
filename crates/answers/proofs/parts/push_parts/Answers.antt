use Rattle.std.proofs.Common.{true, false, [], ◌∷◌, ◌++◌, vec_items, sym, refl, ap, ◌∙◌, arith}
use Rattle.std.proofs.lemmas.List.{append_assoc}
use Rattle.std.proofs.lemmas.Slice.{pushed}
use Rattle.wire.specs.Cursor.{step}
use Rattle.answers.specs.Parts.{part_text}
use Rattle.answers.proofs.Steps.{to_print, left_falls, part_on, part_end}
use Rattle.answers.proofs.parts.push_parts.Goals as goal

pub loop-first-smaller : goal.loop-first-smaller
loop-first-smaller g c =
    let read = g.P.Parts.reads in
    let s = g.P.Parts.state c.loop-first.parts in
    let did = c.in_ok-push_part.ensures in
    let falls = left_falls read c.loop-first.first s (sym did.1 ∙ c.if-branch.true) in
    let moved = ap (λ t. t.left) did.2 in
    omega arith

pub loop-first-preserved : goal.loop-first-preserved
loop-first-preserved g c =
    let read = g.P.Parts.reads in
    let first = c.loop-first.first in
    let out = vec_items c.loop-first.out in
    let s = g.P.Parts.state c.loop-first.parts in
    let a = (step read s).0 in
    let did = c.in_ok-push_part.ensures in
    let on = sym did.1 ∙ c.if-branch.true in
    ap (λ l. l ++ to_print read false (g.P.Parts.state c.push_part.new.self)) did.0
    ∙ ap (λ t. (out ++ part_text first a) ++ to_print read false t) did.2
    ∙ append_assoc out (part_text first a) (to_print read false (step read s).1)
    ∙ ap (λ l. out ++ l) (sym (part_on read first s on))
    ∙ c.loop-first.invariant

pub returns : goal.returns
returns g c =
    let read = g.P.Parts.reads in
    let first = c.loop-first.first in
    let s = g.P.Parts.state c.loop-first.parts in
    let all = to_print read true (g.P.Parts.state c.args.parts.now) in
    let did = c.in_ok-push_part.ensures in
    let end = part_end read first s (sym did.1 ∙ c.if-branch.false) in
    let opened = pushed (91 ∷ []) refl c.in_ok-push.was c.push.ensures.items in
    let printed = did.0 ∙ ap (λ l. vec_items c.loop-first.out ++ l) (sym end) ∙ c.loop-first.invariant ∙ ap (λ l. l ++ all) opened in
    pushed (93 ∷ []) printed c.in_ok-push-2.was c.push-2.ensures.items
    ∙ simp append_assoc
