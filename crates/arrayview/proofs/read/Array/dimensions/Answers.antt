use Rattle.std.proofs.Common.{◌≡◌, ℕ, min, List, length, take, sym, ap, ◌∙◌, inl, inr, arith}
use Rattle.std.proofs.lemmas.List.{take_all}
use Rattle.std.proofs.lemmas.Bool.{cases_lt}
use Rattle.wire.specs.Cursor.{before}
use Rattle.arrayview.proofs.read.Array.dimensions.Goals as goal

-- the first bytes, cut at the end at the latest
take_within : (bs : List ℕ) (n end : ℕ) → end ≡ min n (length bs) → take end bs ≡ take n bs
take_within bs n end is =
    elim (cases_lt n (length bs)) [
      | inl low ↦ ap (λ k. take k bs) (omega arith)
      | inr high ↦ take_all end bs (omega arith) ∙ sym (take_all n bs high)
    ]

pub returns : goal.returns
returns c =
    let a = c.args.self.now in
    c.new.ensures ∙ ap (λ bs. before bs 12 a.count) (take_within a.buf.now a.start c.min-end.result c.min-end.ensures)
