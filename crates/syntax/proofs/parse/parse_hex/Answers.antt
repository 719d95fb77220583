use Rattle.std.proofs.Common.{◌≡◌, ◌-◌, [], ◌∷◌, ◌++◌, length, take, drop, vec_items, sym, refl, ap, ◌∙◌, arith}
use Rattle.std.proofs.lemmas.List.{take_all, length-drop}
use Rattle.std.proofs.lemmas.Slice.{pushed}
use Rattle.std.specs.Option.{option_map}
use Rattle.syntax.specs.Parsed.{unhex}
use Rattle.syntax.proofs.Parsing.{unhex_odd, unhex_more}
use Rattle.syntax.proofs.parse.parse_hex.Goals as goal

pub returns-then-digits-ne0 : goal.returns-then-digits-ne0
returns-then-digits-ne0 c = sym (unhex_odd c.args.digits.now c.if-digits-ne0.true)

pub loop-rest-preserved : goal.loop-rest-preserved
loop-rest-preserved c =
    let rest = c.loop-rest.rest.now in
    let behind = pushed (c.in-Some.b ∷ []) refl c.in_ok-push-in-Some.was c.push.ensures.items in
    let all : take (length rest - 2) (drop 2 rest) ≡ drop 2 rest = take_all (length rest - 2) (drop 2 rest) (simp length-drop (omega arith)) in
    c.loop-rest.invariant
    ∙ unhex_more (vec_items c.loop-rest.bytes) rest c.in-Some.b (omega arith) c.in-Some.ensures
    ∙ ap (λ bs. option_map (λ cs. bs ++ cs) (unhex (drop 2 rest))) (sym behind)
    ∙ ap (λ l. option_map (λ cs. vec_items c.push.new.self ++ cs) (unhex l)) (sym all)
