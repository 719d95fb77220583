use Rattle.std.proofs.Common.{◌≡◌, ◌-◌, ◌^◌, min, map, take, Ok, Err, unwrap_or, sym, ap, ◌∙◌, arith}
use Rattle.std.proofs.lemmas.List.{take_all}
use Rattle.element.specs.Totals.{extent, extents}
use Rattle.element.proofs.Sums.{extent_told, extents_more, total_fits, total_past}
use Rattle.element.proofs.total.total_size.Goals as goal

pub loop-element-preserved : goal.loop-element-preserved
loop-element-preserved g c =
    let value = g.T.Element.value in
    let x = c.element-item.result in
    let told : c.unwrap_or.result ≡ extent (value x) = c.unwrap_or.ensures ∙ ap (λ o. unwrap_or o 0) c.size.ensures ∙ extent_told (value x) in
    let more = extents_more value c.args.run.now c.loop-element.element-index x c.loop-element-test.true c.element-item.is in
    let inv : c.loop-element.bytes ≡ min (extents (map value (take c.loop-element.element-index c.args.run.now))) (2 ^ 64 - 1) = c.loop-element.invariant in
    omega (arith, c.saturating_add-bytes.ensures)

pub returns-then-bytes-gt2147483647 : goal.returns-then-bytes-gt2147483647
returns-then-bytes-gt2147483647 g c =
    let vs = map g.T.Element.value c.args.run.now in
    let all = c.loop-element.invariant ∙ ap (λ xs. min (extents (map g.T.Element.value xs)) (2 ^ 64 - 1)) (take_all _ c.args.run.now c.loop-element-test.false) in
    ap Err c.new.ensures ∙ sym (total_past vs (omega arith))

pub returns : goal.returns
returns g c =
    let vs = map g.T.Element.value c.args.run.now in
    let all = c.loop-element.invariant ∙ ap (λ xs. min (extents (map g.T.Element.value xs)) (2 ^ 64 - 1)) (take_all _ c.args.run.now c.loop-element-test.false) in
    let same : c.loop-element.bytes ≡ extents vs = omega arith in
    ap Ok same ∙ sym (total_fits vs (omega arith))
