use Rattle.std.proofs.Common.{Some, None, Ok, ap, ◌∙◌, arith}
use Rattle.std.proofs.lemmas.List.{length-append}
use Rattle.std.specs.Option.{option_map}
use Rattle.texts.specs.Places.{pool_pair}
use Rattle.hstore.proofs.Sizes.{entry_sized}
use Rattle.hstore.proofs.write.measure_entry.Goals as goal

pub returns-in-Some-2 : goal.returns-in-Some-2
returns-in-Some-2 c =
    ap Ok (simp length-append (omega arith))
    ∙ entry_sized (pool_pair c.args.pools) c.args.k c.args.entry c.in-Some.key.now (Some c.in-Some-2.value.now)
    c.in_ok-key.ensures (ap (option_map (λ x. x.now)) c.in-Some.is) c.in_ok-value.ensures (ap (option_map (λ x. x.now)) c.in-Some-2.is)

pub returns-in-None : goal.returns-in-None
returns-in-None c =
    ap Ok (simp length-append (omega arith))
    ∙ entry_sized (pool_pair c.args.pools) c.args.k c.args.entry c.in-Some.key.now None
    c.in_ok-key.ensures (ap (option_map (λ x. x.now)) c.in-Some.is) c.in_ok-value.ensures (ap (option_map (λ x. x.now)) c.in-None.is)
