use Rattle.std.proofs.Common.{◌+◌, ◌<◌, length, Ok, ap, ◌∙◌, arith, rules}
use Rattle.std.proofs.lemmas.List.{take_all}
use Rattle.wire.specs.Bytes.{put}
use Rattle.wire.proofs.Writing.{put_none}
use Rattle.serializer.specs.Lists.{values}
use Rattle.array.specs.Layout.{elements}
use Rattle.array.proofs.Steps.{elements_front}
use Rattle.array.proofs.Turns.{turn_sound, turn_never, turn_place, turn_laid}
use Rattle.array.proofs.write.write_elements.Goals as goal

pub loop-k-init : goal.loop-k-init
loop-k-init g c = (c.requires.sound, omega arith, put_none c.args.start c.args.part.now)

pub slice_bounds-write_nullable-count : goal.slice_bounds-write_nullable-count
slice_bounds-write_nullable-count g c = let front = elements_front (g.S.Serializer.items c.args.serializer.now) c.loop-k.k in omega arith

pub slice_bounds-write_nullable-start : goal.slice_bounds-write_nullable-start
slice_bounds-write_nullable-start g c = let front = elements_front (g.S.Serializer.items c.args.serializer.now) c.loop-k.k in search rules

pub returns-in_err-at : goal.returns-in_err-at
returns-in_err-at g c =
    let is = g.S.Serializer.items c.args.serializer.now in
    let within : c.loop-k.k < length is = omega arith in
    absurd (turn_never is c.loop-k.k within c.loop-k.invariant.0 c.args.start c.loop-k.at c.args.part.now c.loop-k.part c.requires.room c.loop-k.invariant.1 c.loop-k.auto.part _ c.in_err-at.ensures.answer)

pub loop-k-preserved : goal.loop-k-preserved
loop-k-preserved g c =
    let is = g.S.Serializer.items c.args.serializer.now in
    let within : c.loop-k.k < length is = omega arith in (
      turn_sound is c.loop-k.k within c.loop-k.invariant.0 c.args.start c.loop-k.at c.args.part.now c.loop-k.part c.requires.room c.loop-k.invariant.1 c.loop-k.auto.part,
      turn_place is c.loop-k.k within c.loop-k.invariant.0 c.args.start c.loop-k.at c.args.part.now c.loop-k.part c.requires.room c.loop-k.invariant.1 c.loop-k.auto.part _ c.in_ok-at.ensures.answer,
      turn_laid is c.loop-k.k within c.loop-k.invariant.0 c.args.start c.loop-k.at c.args.part.now c.loop-k.part c.requires.room c.loop-k.invariant.1 c.loop-k.auto.part _ c.write_nullable.ensures.after c.loop-k.invariant.2,
    )

pub returns : goal.returns
returns g c =
    let is = g.S.Serializer.items c.args.serializer.now in
    let all = take_all c.loop-k.k is (omega arith) in
    record {
      answer = ap Ok (c.loop-k.invariant.1 ∙ ap (λ js. c.args.start + length (elements (values js))) all);
      after = c.loop-k.invariant.2 ∙ ap (λ js. put c.args.start (elements (values js)) c.args.part.now) all;
    }
