use Rattle.std.proofs.Common.{length, Ok, sym, ap, ◌∙◌, arith}
use Rattle.wire.specs.Encoding.{told}
use Rattle.wire.proofs.Counts.{count_fits}
use Rattle.geometry.proofs.Points.{length_points}
use Rattle.path.proofs.Writes.{encoding_is}
use Rattle.path.proofs.write.path_size.Goals as goal

pub returns : goal.returns
returns c = λ closed.
    let ps = c.args.points.now in
    let few = (count_fits (length ps) 0 _ c.in_ok-from_usize.ensures).0 in
    ap Ok (omega (arith, length_points ps)) ∙ sym (ap told (encoding_is closed ps few))
