use Rattle.std.proofs.Common.{◌≡◌, ◌+◌, ◌++◌, length, Ok, sym, ap, ◌∙◌, arith}
use Rattle.std.proofs.ByRecursion.{All-get_or}
use Rattle.std.proofs.lemmas.List.{take_all, length-append}
use Rattle.std.specs.List.{flat_map}
use Rattle.texts.specs.Places.{pool_pair}
use Rattle.wire.specs.Bytes.{put}
use Rattle.wire.proofs.Writing.{put_on}
use Rattle.hstore.specs.Encoding.{places_layout, EntryNamed}
use Rattle.hstore.proofs.Writes.{no_entry, done, key_bytes, value_bytes, entry_more, entry_within}
use Rattle.hstore.proofs.write.write_entries.Goals as goal

pub put_text-requires : goal.put_text-requires
put_text-requires c =
    let ps = pool_pair c.args.pools in
    let es = c.args.entries.now in
    let i = c.loop-entry.entry-index in
    let here = c.loop-entry-test.true in
    let fits = entry_within ps es i here in
    record { text = (All-get_or (EntryNamed ps) es i no_entry here c.requires.texts).0; room = omega arith }

pub put_text-requires-in-loop-entry : goal.put_text-requires-in-loop-entry
put_text-requires-in-loop-entry c =
    let ps = pool_pair c.args.pools in
    let es = c.args.entries.now in
    let i = c.loop-entry.entry-index in
    let here = c.loop-entry-test.true in
    let fits = entry_within ps es i here in
    let next : c.in_ok-at.at ≡ c.loop-entry.at + length (key_bytes ps es i) = let a = c.in_ok-at.ensures.answer in cc in
    record { text = (All-get_or (EntryNamed ps) es i no_entry here c.requires.texts).1; room = omega arith }

pub loop-entry-preserved : goal.loop-entry-preserved
loop-entry-preserved c =
    let ps = pool_pair c.args.pools in
    let es = c.args.entries.now in
    let part = c.args.part.now in
    let i = c.loop-entry.entry-index in
    let here = c.loop-entry-test.true in
    let front = done ps es i in
    let first = key_bytes ps es i in
    let second = value_bytes ps es i in
    let fits = entry_within ps es i here in
    let next : c.in_ok-at.at ≡ c.loop-entry.at + length first = let a = c.in_ok-at.ensures.answer in cc in
    let end : c.in_ok-at-2.at ≡ c.in_ok-at.at + length second = let a = c.in_ok-at-2.ensures.answer in cc in
    let more = entry_more ps es i here in
    let long = length-append front first in
    let longer = ap length more ∙ length-append (front ++ first) second in
    let one = put_on 4 c.loop-entry.at front first part (omega arith) c.loop-entry.invariant.0 c.loop-entry.invariant.1 c.put_text.ensures.after in (
      omega arith,
      put_on 4 c.in_ok-at.at (front ++ first) second part (omega arith) (omega arith) one c.put_text-in-loop-entry.ensures.after ∙ ap (λ ws. put 4 ws part) (sym more),
    )

pub returns : goal.returns
returns c =
    let ps = pool_pair c.args.pools in
    let all = take_all c.loop-entry.entry-index c.args.entries.now c.loop-entry-test.false in
    record {
      answer = ap Ok (c.loop-entry.invariant.0 ∙ ap (λ es. 4 + length (flat_map (places_layout ps) es)) all);
      after = c.loop-entry.invariant.1 ∙ ap (λ es. put 4 (flat_map (places_layout ps) es) c.args.part.now) all;
    }
