-- Writing the same once more.
use Rattle.std.proofs.Common.{◌≡◌, ℕ, ◌≤◌, leb, List, ◌++◌, length, drop, Ok, Err, refl, ap, ◌∙◌, arith}
use Rattle.std.proofs.lemmas.List.{length-append, length-drop, drop_at}
use Rattle.std.proofs.lemmas.Bool.{cond_both, leb-true}
use Rattle.fault.specs.declared.Rule.TheVariants.{NoRoom}
use Rattle.fault.specs.Faults.{fault}
use Rattle.wire.specs.Bytes.{over}
use Rattle.wire.specs.Encoding.{Encoding, laid, room_for}

length_over : (ws p : List ℕ) → length ws ≤ length p → length (over ws p) ≡ length p
length_over ws p h = simp (length-append, length-drop) (omega arith)

over_again : (ws p : List ℕ) → over ws (over ws p) ≡ over ws p
over_again ws p = ap (λ r. ws ++ r) (drop_at ws (drop (length ws) p) (length ws) refl)

-- a write keeps the length of the part
pub same_length : (e : Encoding) (p : List ℕ) → length (laid (room_for (length p) e) p) ≡ length p
same_length (Err f) p = refl
same_length (Ok ws) p =
    cond_both (leb (length ws) (length p)) (Ok ws) (Err (fault NoRoom 0)) (λ f. length (laid f p) ≡ length p) (λ t. length_over ws p (leb-true (length ws) (length p) t)) (λ _. refl)

laid_again : (e : Encoding) (p : List ℕ) → laid (room_for (length p) e) (laid (room_for (length p) e) p) ≡ laid (room_for (length p) e) p
laid_again (Err f) p = refl
laid_again (Ok ws) p =
    cond_both (leb (length ws) (length p)) (Ok ws) (Err (fault NoRoom 0)) (λ f. laid f (laid f p) ≡ laid f p) (λ _. over_again ws p) (λ _. refl)

-- a part that was written: the same write finds as much room, and leaves it as it is
module _ (e : Encoding) (p was : List ℕ) (first : was ≡ laid (room_for (length p) e) p) where
  pub room_again : room_for (length was) e ≡ room_for (length p) e
  room_again = ap (λ n. room_for n e) (ap length first ∙ same_length e p)

  pub stays : (is : List ℕ) → is ≡ laid (room_for (length was) e) was → is ≡ laid (room_for (length p) e) p
  stays is h = h ∙ ap (λ f. laid f was) room_again ∙ ap (laid (room_for (length p) e)) first ∙ laid_again e p
