use Rattle.std.proofs.Common.{rules}
use Rattle.std.proofs.lemmas.Iterator.{YieldsList-from_map, YieldsList-from_slice}
use Rattle.std.proofs.lemmas.Iterator.Consumers.{YieldsList-at}
use Rattle.std.proofs.lemmas.Iterator.Adapters.{items_from_extend}
use Rattle.cabi.specs.Writes.{entry_of}
use Rattle.cabi.proofs.writes.lay_entries.Goals as goal

pub returns : goal.returns
returns c =
    let h = items_from_extend c.extend.result c.extend.ensures.ran (YieldsList-from_map _ entry_of (YieldsList-at c.map.ensures.source (YieldsList-from_slice c.args.rows.now cc)) c.map.ensures.closure (λ x r q k. search rules)) in
    search rules
