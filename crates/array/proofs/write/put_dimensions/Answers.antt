use Rattle.std.proofs.Common.{◌≡◌, ◌+◌, ◌*◌, length, get_or, take, Ok, sym, ap, ◌∙◌, arith}
use Rattle.std.proofs.lemmas.List.{take_all}
use Rattle.wire.specs.Bytes.{put}
use Rattle.wire.proofs.Writing.{put_on}
use Rattle.array.specs.Layout.{dimension, dimensions}
use Rattle.array.proofs.Steps.{dimensions_more, length_front}
use Rattle.array.proofs.write.put_dimensions.Goals as goal

pub loop-dim-preserved : goal.loop-dim-preserved
loop-dim-preserved c =
    let ds = c.args.dims.now in
    let i = c.loop-dim.dim-index in
    let long = length_front ds i (omega arith) in
    let same : c.in_ok-at.at ≡ c.loop-dim.at + 8 = let a = c.in_ok-at.ensures.answer in cc in (
      omega arith,
      put_on 12 _ (dimensions (take i ds)) (dimension (get_or ds i _)) c.args.part.now (omega arith) (omega arith) c.loop-dim.invariant.1 c.put_dimension.ensures.after
          ∙ ap (λ ws. put 12 ws c.args.part.now) (sym (dimensions_more ds i _ c.loop-dim-test.true)),
    )

pub returns : goal.returns
returns c =
    let all = take_all c.loop-dim.dim-index c.args.dims.now c.loop-dim-test.false in
    let end : c.loop-dim.at ≡ 12 + 8 * length c.args.dims.now = omega arith in
    record { answer = ap Ok end; after = c.loop-dim.invariant.1 ∙ ap (λ ds. put 12 (dimensions ds) c.args.part.now) all }
