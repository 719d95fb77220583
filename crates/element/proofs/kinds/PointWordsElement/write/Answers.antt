use Rattle.std.proofs.Common.{◌≤◌, ◌++◌, length, sym, refl, ap, ◌∙◌, arith}
use Rattle.wire.specs.Items.{null_of, filled}
use Rattle.wire.specs.Words.{be}
use Rattle.wire.proofs.Fitting.{item_fits}
use Rattle.wire.proofs.Writing.{laid_fits, laid_on, put_start}
use Rattle.element.proofs.kinds.PointWordsElement.write.Goals as goal

pub returns : goal.returns
returns c =
    let x = be 8 c.args.self.now.x in
    let y = be 8 c.args.self.now.y in
    let part = c.args.part.now in
    let room : 16 ≤ length part = c.if-part-lt16.false in
    let first = c.put.ensures.after ∙ laid_fits 0 x part (omega arith) in
    let both = c.put-2.ensures.after ∙ laid_on 0 8 x y part _ room refl first ∙ put_start (x ++ y) part in
    let is = item_fits (length part) (x ++ y) refl room in
    record { answer = sym (ap null_of is); after = both ∙ sym (ap (λ i. filled i part) is) }
