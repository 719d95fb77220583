use Rattle.std.proofs.Common.{length, Ok, sym, ap, ◌∙◌, arith}
use Rattle.texts.specs.Places.{pool_pair}
use Rattle.wire.proofs.Counts.{count_fits}
use Rattle.hstore.specs.Encoding.{counted, entry_texts}
use Rattle.hstore.proofs.Sizes.{sized}
use Rattle.hstore.proofs.Writes.{encoding_is}
use Rattle.hstore.proofs.write.hstore_size.Goals as goal

pub returns : goal.returns
returns c =
    let ps = pool_pair c.args.pools in
    let es = c.args.entries.now in
    let few = (count_fits (length es) 0 _ c.in_ok-from_usize.ensures).0 in
    let t = sized (entry_texts ps 0 es) c.in_ok-bytes.bytes c.in_ok-bytes.ensures in
    ap Ok (omega arith) ∙ sym (ap counted (encoding_is ps es t.0 c.in_ok-test_keys.ensures t.1 few))
