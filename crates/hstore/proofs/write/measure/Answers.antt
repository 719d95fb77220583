use Rattle.std.proofs.Common.{◌+◌, ◌∷◌, get_or, drop, Ok, Err, sym, ap, ◌∙◌, arith}
use Rattle.std.proofs.lemmas.List.{at_drop_more, at_drop_all}
use Rattle.std.proofs.lemmas.Result.{err_from_is_err_and}
use Rattle.texts.specs.Places.{pool_pair}
use Rattle.wire.specs.Words.{then}
use Rattle.hstore.specs.Encoding.{entry_text, entry_texts}
use Rattle.hstore.proofs.Sizes.{size_from, size_more, size_fault}
use Rattle.hstore.proofs.Writes.{no_entry}
use Rattle.hstore.proofs.write.measure.Goals as goal

pub returns-in_err-measure_entry : goal.returns-in_err-measure_entry
returns-in_err-measure_entry c =
    let ps = pool_pair c.args.pools in
    let es = c.args.entries.now in
    let k = c.loop-k.k in
    let here = at_drop_more (λ l. size_from c.loop-k.bytes (entry_texts ps k l)) es k no_entry c.loop-k-test.true in
    let first = size_fault (entry_text ps k (get_or es k no_entry)) (λ x. then (entry_texts ps (k + 1) (drop (k + 1) es)) (λ xs. Ok (x ∷ xs))) c.loop-k.bytes _ c.in_err-measure_entry.ensures in
    let p = err_from_is_err_and c.from_residual.result c.from_residual.ensures.1 in
    p.1 ∙ ap Err p.2 ∙ sym (here ∙ first) ∙ c.loop-k.invariant.1

pub loop-k-preserved : goal.loop-k-preserved
loop-k-preserved c =
    let ps = pool_pair c.args.pools in
    let es = c.args.entries.now in
    let k = c.loop-k.k in
    let rest = entry_texts ps (k + 1) (drop (k + 1) es) in
    let here = at_drop_more (λ l. size_from c.loop-k.bytes (entry_texts ps k l)) es k no_entry c.loop-k-test.true in (
      omega arith,
      ap (λ n. size_from n rest) c.saturating_add-bytes.ensures
          ∙ size_more (entry_text ps k (get_or es k no_entry)) rest c.loop-k.bytes _ c.in_ok-measure_entry.ensures ∙ sym here ∙ c.loop-k.invariant.1,
    )

pub returns : goal.returns
returns c =
    let ps = pool_pair c.args.pools in
    let k = c.loop-k.k in
    ap Ok (omega arith) ∙ sym (at_drop_all (λ l. size_from c.loop-k.bytes (entry_texts ps k l)) c.args.entries.now k c.loop-k-test.false) ∙ c.loop-k.invariant.1
