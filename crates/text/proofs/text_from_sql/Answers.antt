use Rattle.std.proofs.Common.{◌≡◌, length, Err, sym, refl, ap, ◌∙◌, arith}
use Rattle.std.proofs.lemmas.Bool.{cond-true, cond-false, eq-eqb, ne_eqb, false≢true}
use Rattle.text.specs.Recv.{text_end}
use Rattle.text.proofs.Ends.{end_within, longest, reaches, is_text}
use Rattle.text.proofs.text_from_sql.Goals as goal
use Rattle.fault.specs.declared.Rule.TheVariants.{NotText}
use Rattle.fault.specs.Faults.{fault}

pub returns-then-end-bytes : goal.returns-then-end-bytes
returns-then-end-bytes c =
    let bs = c.args.bytes.now in
    record {
      answer = ap Err (c.new.ensures ∙ ap (fault NotText) c.whole_characters-end.ensures) ∙ sym (cond-false _ _ _ (ne_eqb (text_end bs) (length bs) (λ e. omega arith)));
      exactly = ((λ e. absurd (false≢true e)), λ t. absurd (omega (arith, reaches bs t)));
      place = longest bs;
    }

pub returns : goal.returns
returns c =
    let bs = c.args.bytes.now in
    let all : text_end bs ≡ length bs = omega (arith, end_within bs) in
    record {
      answer = sym (cond-true _ _ _ (eq-eqb (text_end bs) (length bs) all));
      exactly = ((λ _. is_text bs all), λ _. refl);
      place = longest bs;
    }
