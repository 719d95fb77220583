use Rattle.std.proofs.Common.{sym, ap, ◌∙◌}
use Rattle.array.specs.Encoding.{counted}
use Rattle.content.proofs.Arrays.{content_fits}
use Rattle.content.proofs.array_content.ArrayContentEncoded.size.Goals as goal

pub returns : goal.returns
returns g c =
    let a = c.args.self.now in
    let is = g.S.Serializer.items a.serializer.now in
    c.array_size.ensures a.oid ∙ sym (ap counted (content_fits a.oid c.count.result a.dims.now is c.count.ensures c.in_ok-check_dimensions.ensures))
