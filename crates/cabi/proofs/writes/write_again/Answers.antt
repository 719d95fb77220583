use Rattle.std.proofs.Common.{ap, ◌∙◌}
use Rattle.wire.specs.Encoding.{told}
use Rattle.cabi.proofs.Again.{room_again, stays}
use Rattle.cabi.proofs.writes.write_again.Goals as goal

pub loop-init : goal.loop-init
loop-init g c = (c.requires, λ e follows. follows _ _ _ c.in_ok-size.ensures)

pub loop-preserved : goal.loop-preserved
loop-preserved g c = (
  c.loop.invariant.0,
  λ e follows.
      let before = c.loop.invariant.1 e follows in
      let last = follows _ _ _ c.in_ok-size-2.ensures in
      (last.0 ∙ ap told (room_again e c.args.part.now _ before.1), stays e c.args.part.now _ before.1 _ last.1),
)

pub returns : goal.returns
returns g c = c.loop.invariant.1
