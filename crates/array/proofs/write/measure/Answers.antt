use Rattle.std.proofs.Common.{◌<◌, ◌||◌, length, Err, sym, ap, ◌∙◌, arith}
use Rattle.std.proofs.lemmas.Result.{err_from_is_err_and}
use Rattle.array.proofs.Extents.{bytes_more, nulls_more, sound_more, extent_all, extent_fault}
use Rattle.array.proofs.write.measure.Goals as goal

pub returns-in_err-size : goal.returns-in_err-size
returns-in_err-size g c =
    let is = g.S.Serializer.items c.args.serializer.now in
    let within : c.loop-k.k < length is = omega arith in
    let p = err_from_is_err_and c.from_residual.result c.from_residual.ensures.1 in
    p.1 ∙ ap Err p.2 ∙ sym (extent_fault is c.loop-k.k _ within c.in_err-size.ensures c.loop-k.invariant.0)

pub loop-k-preserved : goal.loop-k-preserved
loop-k-preserved g c =
    let is = g.S.Serializer.items c.args.serializer.now in
    let k = c.loop-k.k in
    let within : k < length is = omega arith in
    let size = c.in_ok-size.ensures in
    let more = bytes_more is k within _ size in (
      sound_more is k within _ size ∙ c.loop-k.invariant.0,
      omega arith,
      ap (λ b. b || c.is_none-nulls.result) c.loop-k.invariant.2 ∙ sym (nulls_more is k within _ size _ c.is_none-nulls.ensures),
    )

pub returns : goal.returns
returns g c =
    let is = g.S.Serializer.items c.args.serializer.now in
    extent_all is c.loop-k.k _ _ (omega arith) c.loop-k.invariant.0 c.loop-k.invariant.1 c.loop-k.invariant.2
