use Rattle.std.proofs.Common.{◌≡◌, suc, ◌+◌, ◌-◌, ◌*◌, Ok, Err, sym, ap, ◌∙◌, arith}
use Rattle.std.proofs.lemmas.Result.{err_from_is_err_and}
use Rattle.array.proofs.Factors.{factor_ok, product_more}
use Rattle.array.specs.Recv.{product_from}
use Rattle.arrayview.proofs.read.read_product.Goals as goal

pub loop-i-init : goal.loop-i-init
loop-i-init c =
    let all : c.args.count - 0 ≡ c.args.count = omega arith in
    (omega arith, omega arith, ap (λ n. product_from n c.args.buf.now 12 1) all)

pub returns-in_err-product : goal.returns-in_err-product
returns-in_err-product c =
    let i = c.loop-i.i in
    let left : c.args.count - i ≡ suc (c.args.count - (i + 1)) = omega arith in
    let more = product_more (c.args.count - i) (c.args.count - (i + 1)) c.args.buf.now (12 + 8 * i) c.loop-i.product {r = Err c.in_err-product.field-0.0} left c.in_err-product.ensures in
    let p = err_from_is_err_and c.from_residual.result c.from_residual.ensures.1 in
    p.1 ∙ ap Err p.2 ∙ sym more ∙ c.loop-i.invariant.2

pub loop-i-preserved : goal.loop-i-preserved
loop-i-preserved c =
    let i = c.loop-i.i in
    let left : c.args.count - i ≡ suc (c.args.count - (i + 1)) = omega arith in
    let read = c.in_ok-product.ensures in
    let product = c.in_ok-product.product in
    let more = product_more (c.args.count - i) (c.args.count - (i + 1)) c.args.buf.now (12 + 8 * i) c.loop-i.product {r = Ok product} left read in
    let factor = factor_ok c.args.buf.now (12 + 8 * i) c.loop-i.product product read in
    let next : 12 + 8 * (i + 1) ≡ 12 + 8 * i + 8 = omega arith in
    (factor.below, omega (arith, factor.room), ap (λ at. product_from (c.args.count - (i + 1)) c.args.buf.now at product) next ∙ sym more ∙ c.loop-i.invariant.2)

pub returns : goal.returns
returns c =
    let none : c.args.count - c.loop-i.i ≡ 0 = omega arith in
    sym (ap (λ n. product_from n c.args.buf.now (12 + 8 * c.loop-i.i) c.loop-i.product) none) ∙ c.loop-i.invariant.2
