-- An entry, read part by part.
use Rattle.std.proofs.Common.{◌≡◌, ℕ, ◌+◌, List, Some, None, Ok, sym, ap, ◌∙◌}
use Rattle.wire.specs.Words.{Value, then, value_at}
use Rattle.hstore.specs.Recv.{text_at, key_in, key_at, value_in, entry_value_at}

module _ (bs : List ℕ) (at : ℕ) {v : Value} (read : Ok v ≡ value_at bs at) where
  pub value_null : v ≡ None → entry_value_at bs at ≡ Ok None
  value_null is = ap (λ r. then r (value_in at)) (sym read ∙ ap Ok is)

  pub value_text : (raw t : List ℕ) → v ≡ Some raw → Ok t ≡ text_at (at + 4) raw → entry_value_at bs at ≡ Ok (Some t)
  value_text raw t is text = ap (λ r. then r (value_in at)) (sym read ∙ ap Ok is) ∙ ap (λ r. then r (λ u. Ok (Some u))) (sym text)

  pub key_text : (raw t : List ℕ) → v ≡ Some raw → Ok t ≡ text_at (at + 4) raw → key_at bs at ≡ Ok t
  key_text raw t is text = ap (λ r. then r (key_in at)) (sym read ∙ ap Ok is) ∙ sym text
