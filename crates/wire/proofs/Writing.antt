-- Writes into a part.
use Rattle.std.proofs.Common.{◌≡◌, ℕ, ◌+◌, ◌-◌, ◌<◌, ◌≤◌, List, [], ◌++◌, length, take, drop, Ok, Err, sym, ap, ◌∙◌, add-zero, zero-add, arith}
use borrow.Rule.Slice.PartMut.{put_mid}
use Rattle.std.proofs.lemmas.List.{append_assoc, append-nil, length-append, length-take-le, length-drop, drop-drop, take_at, drop_at, drop_all, take-append-drop}
use Rattle.std.proofs.lemmas.Bool.{cond-true, cond-false, le-leb, lt-leb}
use Rattle.fault.specs.declared.Fault.{Fault}
use Rattle.fault.specs.declared.Rule.TheVariants.{NoRoom}
use Rattle.wire.specs.Bytes.{put, over}
use Rattle.wire.specs.Encoding.{Encoding, room_for, told_at, laid_at}
use Rattle.fault.specs.Faults.{fault}

-- bytes that fit behind a place, and such as do not
module _ (at : ℕ) (ws part : List ℕ) where
  pub told_fits : at + length ws ≤ length part → told_at at ws part ≡ Ok (at + length ws)
  told_fits h = cond-true _ _ _ (le-leb _ _ h)

  pub laid_fits : at + length ws ≤ length part → laid_at at ws part ≡ put at ws part
  laid_fits h = cond-true _ _ _ (le-leb _ _ h)

  pub told_past : length part < at + length ws → told_at at ws part ≡ Err (fault NoRoom 0)
  told_past h = cond-false _ _ _ (lt-leb _ _ h)

  pub laid_past : length part < at + length ws → laid_at at ws part ≡ part
  laid_past h = cond-false _ _ _ (lt-leb _ _ h)

  -- where they fit, a refusal is no way out
  pub fits_never : at + length ws ≤ length part → (f : Fault) → Err f ≡ told_at at ws part → ⊥
  fits_never h f e = let t = told_fits h in let z : ◌≡◌ {A = ℕ} 0 1 = cc in omega arith

-- `s[at..at + length ws]` is lent, and filled
pub put_mid_is : (at k : ℕ) (ws bs last : List ℕ) → last ≡ ws → k ≡ length ws → put_mid at k bs last ≡ put at ws bs
put_mid_is at k ws bs last e n = rw (e, n, drop-drop (length ws) at bs)

-- one write behind another
pub put_more : (at : ℕ) (ws vs bs : List ℕ) → at ≤ length bs → put (at + length ws) vs (put at ws bs) ≡ put at (ws ++ vs) bs
put_more at ws vs bs h =
    let p = take at bs in
    let rest = drop (at + length ws) bs in
    let long : length (p ++ ws) ≡ at + length ws = length-append p ws ∙ ap (λ n. n + length ws) (length-take-le at bs h) in
    let whole : put at ws bs ≡ (p ++ ws) ++ rest = sym (append_assoc p ws rest) in
    let front : take (at + length ws) (put at ws bs) ≡ p ++ ws = ap (take (at + length ws)) whole ∙ take_at (p ++ ws) rest (at + length ws) long in
    let back : drop (at + length ws + length vs) (put at ws bs) ≡ drop (at + length (ws ++ vs)) bs
    = ap (drop (at + length ws + length vs)) whole
    ∙ sym (drop-drop (length vs) (at + length ws) ((p ++ ws) ++ rest))
    ∙ ap (drop (length vs)) (drop_at (p ++ ws) rest (at + length ws) long)
    ∙ drop-drop (length vs) (at + length ws) bs
    ∙ ap (λ n. drop n bs) (simp length-append (omega arith)) in
    rw (front, back, append_assoc p ws, append_assoc ws vs)

-- the same, over what a part held on the way
pub put_on : (at to : ℕ) (ws vs bs : List ℕ) {was is : List ℕ} → at ≤ length bs → to ≡ at + length ws → was ≡ put at ws bs → is ≡ put to vs was → is ≡ put at (ws ++ vs) bs
put_on at to ws vs bs h place before written =
    written ∙ ap (put to vs) before ∙ ap (λ n. put n vs (put at ws bs)) place ∙ put_more at ws vs bs h

pub length_put : (at : ℕ) (ws bs : List ℕ) → at + length ws ≤ length bs → length (put at ws bs) ≡ length bs
length_put at ws bs h = simp (length-append, length-drop, length-take-le at bs (omega arith)) (omega arith)

-- `s[at..]` is lent, and bytes are written to its start
pub put_lent : (at : ℕ) (ws bs lent : List ℕ) → lent ≡ over ws (drop at bs) → put_mid at (length bs - at) bs lent ≡ put at ws bs
put_lent at ws bs lent e =
    let none : drop (length bs - at) (drop at bs) ≡ [] = drop_all (length bs - at) (drop at bs) (simp length-drop (omega arith)) in
    rw (e, none, append-nil, drop-drop (length ws) at bs)

pub put_start : (ws bs : List ℕ) → put 0 ws bs ≡ over ws bs
put_start ws bs = ap (λ n. ws ++ drop n bs) (zero-add (length ws))

pub put_none : (at : ℕ) (bs : List ℕ) → bs ≡ put at [] bs
put_none at bs = sym (ap (λ n. take at bs ++ drop n bs) (add-zero at) ∙ take-append-drop at bs)

-- bytes that a part has room for, and such as it has not
pub roomy : (room : ℕ) (ws : List ℕ) {e : Encoding} → e ≡ Ok ws → length ws ≤ room → room_for room e ≡ Ok ws
roomy room ws e h = ap (room_for room) e ∙ cond-true _ _ _ (le-leb _ _ h)

pub no_room : (room : ℕ) (ws : List ℕ) {e : Encoding} → e ≡ Ok ws → room < length ws → room_for room e ≡ Err (fault NoRoom 0)
no_room room ws e h = ap (room_for room) e ∙ cond-false _ _ _ (lt-leb _ _ h)

-- a write behind another, where both fit: what is told, what is laid, and that it is not refused
module _ (at to : ℕ) (ws vs bs was : List ℕ) (fits : at + length ws + length vs ≤ length bs) (place : to ≡ at + length ws) (before : was ≡ put at ws bs) where
  room_on : to + length vs ≤ length was
  room_on = let long = ap length before ∙ length_put at ws bs (omega arith) in omega arith

  pub told_on : told_at to vs was ≡ Ok (to + length vs)
  told_on = told_fits to vs was room_on

  pub laid_on : laid_at to vs was ≡ put at (ws ++ vs) bs
  laid_on = put_on at to ws vs bs (omega arith) place before (laid_fits to vs was room_on)

  pub never_on : (f : Fault) → Err f ≡ told_at to vs was → ⊥
  never_on = fits_never to vs was room_on
