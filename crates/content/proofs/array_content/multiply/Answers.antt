use Rattle.std.proofs.Common.{◌+◌, ◌<◌, length, get_or, drop, pos, Err, sym, ap, ◌∙◌, arith, w32, SFits, rules}
use Rattle.std.proofs.lemmas.List.{drop_all}
use Rattle.std.proofs.lemmas.Result.{err_from_is_err_and}
use Rattle.std.proofs.lemmas.Int.{to_z-of_z}
use Rattle.array.specs.declared.dimension.ArrayDimension.{ArrayDimension}
use Rattle.wire.specs.Words.{then}
use Rattle.content.specs.Rules.{factor, product_of}
use Rattle.content.proofs.Arrays.{factor_below, product_more}
use Rattle.content.proofs.array_content.multiply.Goals as goal

pub returns-in_err-product : goal.returns-in_err-product
returns-in_err-product c =
    let ds = c.args.dims.now in
    let i = c.loop-i.i in
    let d : ArrayDimension = record { len = pos 0; lower_bound = pos 0 } in
    let fits : SFits w32 (get_or ds i d).len = search rules in
    let within : i < length ds = omega arith in
    let p = err_from_is_err_and c.from_residual.result c.from_residual.ensures.1 in
    let step = c.in_err-product.ensures ∙ ap (factor i c.loop-i.product) (to_z-of_z w32 (get_or ds i d).len fits) in
    p.1 ∙ ap Err p.2 ∙ sym (c.loop-i.invariant.1 ∙ product_more ds i c.loop-i.product d within ∙ ap (λ r. then r (λ q. product_of (i + 1) q (drop (i + 1) ds))) (sym step))

pub loop-i-preserved : goal.loop-i-preserved
loop-i-preserved c =
    let ds = c.args.dims.now in
    let i = c.loop-i.i in
    let d : ArrayDimension = record { len = pos 0; lower_bound = pos 0 } in
    let fits : SFits w32 (get_or ds i d).len = search rules in
    let within : i < length ds = omega arith in
    let step = c.in_ok-product.ensures ∙ ap (factor i c.loop-i.product) (to_z-of_z w32 (get_or ds i d).len fits) in
    (factor_below i c.loop-i.product (get_or ds i d).len _ step, c.loop-i.invariant.1 ∙ product_more ds i c.loop-i.product d within ∙ ap (λ r. then r (λ q. product_of (i + 1) q (drop (i + 1) ds))) (sym step))

pub returns : goal.returns
returns c = sym (c.loop-i.invariant.1 ∙ ap (product_of c.loop-i.i c.loop-i.product) (drop_all c.loop-i.i c.args.dims.now c.loop-i-test.false))
