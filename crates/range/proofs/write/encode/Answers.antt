use Rattle.std.proofs.Common.{◌≡◌, ◌+◌, length, Err, sym, ap, ◌∙◌}
use Rattle.fault.specs.declared.Rule.TheVariants.{NoRoom}
use Rattle.fault.specs.Faults.{fault}
use Rattle.wire.specs.Encoding.{told, laid}
use Rattle.range.specs.Encoding.{bytes, bound_encoding}
use Rattle.range.proofs.Whole.{measured, refused, range_told, range_laid}
use Rattle.range.proofs.write.encode.Goals as goal

pub returns-then-part-first : goal.returns-then-part-first
returns-then-part-first g c =
    let is = g.S.Serializer.items c.args.serializer.now in
    let part = c.args.part.now in
    let l = measured is c.args.lower _ c.in_ok-first.ensures in
    let u = measured is c.args.upper _ c.in_ok-second.ensures in
    let e = refused is c.args.lower c.args.upper _ _ l u part c.if-part-first.true in
    record { answer = ap Err {y = fault NoRoom 0} c.new.ensures ∙ sym (ap told e); after = sym (ap (λ y. laid y part) e) }

pub returns : goal.returns
returns g c =
    let is = g.S.Serializer.items c.args.serializer.now in
    let lower = c.args.lower in
    let upper = c.args.upper in
    let part = c.args.part.now in
    let l = measured is lower _ c.in_ok-first.ensures in
    let u = measured is upper _ c.in_ok-second.ensures in
    let room = c.if-part-first.false in
    let place : c.in_ok-at.at ≡ 1 + length (bytes (bound_encoding is lower)) = let a = c.in_ok-at.ensures.answer in cc in
    record {
      answer = c.write_bound-2.ensures.answer ∙ range_told is lower upper _ _ l u part _ room place;
      after = range_laid is lower upper _ _ l u part _ _ room c.tag.ensures place c.put.ensures.after c.write_bound.ensures.after c.write_bound-2.ensures.after;
    }
