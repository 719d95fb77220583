use Rattle.std.proofs.Common.{◌≡◌, ◌+◌, ◌∷◌, get_or, drop, sym, ap, ◌∙◌, ⊎_elim, arith}
use Rattle.std.proofs.lemmas.List.{drop_all, drop_more, length-drop}
use Rattle.text.specs.Octets.{announced, counted}
use Rattle.text.specs.Recv.{character}
use Rattle.text.proofs.Leads.{too_short, no_lead, lead_four, uncounted, counted_is, tested, overlong, drop_two, drop_three, drop_four}
use Rattle.text.proofs.Rows.{is_one}
use Rattle.text.proofs.character.character_length.Goals as goal

pub returns-then-at-bytes : goal.returns-then-at-bytes
unfolding character
returns-then-at-bytes c = sym (ap (λ l. counted (character l)) (drop_all c.args.at c.args.bytes.now c.if-at-bytes.true))

pub returns-then-first-lt128 : goal.returns-then-first-lt128
returns-then-first-lt128 c =
    let bs = c.args.bytes.now in
    let at = c.args.at in
    sym (ap counted (ap character (drop_more bs at 0 c.if-at-bytes.false) ∙ is_one (get_or bs at 0 ∷ drop (at + 1) bs) (omega arith) (omega arith)))

pub returns-in_err-length : goal.returns-in_err-length
returns-in_err-length c =
    let bs = c.args.bytes.now in
    let at = c.args.at in
    let first = get_or bs at 0 in
    c.from_residual.ensures ∙ sym (ap counted (ap character (drop_more bs at 0 c.if-at-bytes.false)
    ∙ no_lead first (drop (at + 1) bs) (omega (arith, c.type_inv.bytes at)) (uncounted (announced first) c.in_err-length.ensures)))

pub returns-then-first : goal.returns-then-first
returns-then-first c =
    let bs = c.args.bytes.now in
    let at = c.args.at in
    let rest = drop (at + 1) bs in
    sym (ap counted (ap character (drop_more bs at 0 c.if-at-bytes.false)
    ∙ ⊎_elim (λ e. overlong (get_or bs at 0) rest (omega arith) (omega arith)) (λ e. overlong (get_or bs at 0) rest (omega arith) (omega arith)) c.then-first.either))

pub returns-then-bytes-at : goal.returns-then-bytes-at
returns-then-bytes-at c =
    let bs = c.args.bytes.now in
    let at = c.args.at in
    let first = get_or bs at 0 in
    let few = length-drop (at + 1) bs in
    let length = counted_is (announced first) c.in_ok-length.length c.in_ok-length.ensures in
    sym (ap counted (ap character (drop_more bs at 0 c.if-at-bytes.false)
    ∙ too_short first (drop (at + 1) bs) (omega (arith, c.type_inv.bytes at)) (omega arith)))

pub returns-in-2 : goal.returns-in-2
returns-in-2 c =
    let bs = c.args.bytes.now in
    let at = c.args.at in
    c.then_some.ensures ∙ tested c.two_octets.result 2 (omega arith)
    ∙ ap counted (c.two_octets.ensures (drop (at + 2) bs) ∙ sym (ap character (drop_two bs at (omega arith))))

pub returns-in-3 : goal.returns-in-3
returns-in-3 c =
    let bs = c.args.bytes.now in
    let at = c.args.at in
    c.then_some-in-3.ensures ∙ tested c.three_octets.result 3 (omega arith)
    ∙ ap counted (c.three_octets.ensures (drop (at + 3) bs) ∙ sym (ap character (drop_three bs at (omega arith))))

pub returns-in_default : goal.returns-in_default
returns-in_default c =
    let bs = c.args.bytes.now in
    let at = c.args.at in
    let first = get_or bs at 0 in
    let length = counted_is (announced first) c.in_ok-length.length c.in_ok-length.ensures in
    let four : c.in_ok-length.length ≡ 4 =
    length.0 ∙ lead_four first (drop (at + 1) bs) (omega (arith, c.type_inv.bytes at)) (omega arith) length.1 (λ e. omega arith) (λ e. omega arith) in
    c.then_some-in_default.ensures ∙ tested c.four_octets.result 4 (omega arith)
    ∙ ap counted (c.four_octets.ensures (drop (at + 4) bs) ∙ sym (ap character (drop_four bs at (omega arith))))
