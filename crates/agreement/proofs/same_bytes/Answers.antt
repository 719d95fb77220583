use Rattle.std.proofs.Common.{sym, ◌∙◌}
use Rattle.std.proofs.lemmas.Slice.Eq.{slice_eq-Decides}
use Rattle.agreement.proofs.Steps.{equal_bytes}
use Rattle.agreement.proofs.same_bytes.Goals as goal
use Rattle.std.proofs.lemmas.Bool.Decides.{Decides-eqb}

pub returns : goal.returns
returns c =
    let d = slice_eq-Decides Decides-eqb c.bytes.result.now c.bytes-2.result.now c.eq.result c.eq.ensures in
    record {
      answer = (λ t. sym c.bytes.ensures ∙ d.0 t ∙ c.bytes-2.ensures, λ e. d.1 (c.bytes.ensures ∙ e ∙ sym c.bytes-2.ensures));
      books = equal_bytes c.args.ours.now c.args.buffer.now c.args.theirs.now c.args.other.now;
    }
