use Rattle.std.proofs.Common.{◌≡◌, ◌-◌, ◌^◌, min, length, Ok, sym, ap, ◌∙◌, arith}
use Rattle.serializer.specs.Lists.{values}
use Rattle.array.specs.Encoding.{counted}
use Rattle.array.specs.Layout.{array_layout}
use Rattle.wire.proofs.Counts.{count_fits}
use Rattle.array.proofs.Extents.{extent_told}
use Rattle.array.proofs.Whole.{encoding_is, length_layout}
use Rattle.array.proofs.write.array_size.Goals as goal

pub returns : goal.returns
returns g c = λ oid.
    let is = g.S.Serializer.items c.args.serializer.now in
    let ds = c.args.dims.now in
    let x = extent_told is c.in_ok-extent.extent c.in_ok-extent.ensures in
    let few = (count_fits (length ds) 0 _ c.in_ok-from_usize.ensures).0 in
    let long = length_layout ds oid (values is) in
    let wide = ap (λ y. y.bytes) x.1 in
    let all : c.saturating_add.result ≡ min (length (array_layout ds oid (values is))) (2 ^ 64 - 1) = omega arith in
    ap Ok all ∙ sym (ap counted (encoding_is ds oid is x.0 few))
