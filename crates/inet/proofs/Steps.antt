-- What the tests of a reader and the writes of a writer come to.
use Rattle.std.proofs.Common.{◌≡◌, ℕ, ◌+◌, ◌≤◌, eqb, leb, List, length, get_or, Ok, arith}
use Rattle.std.proofs.lemmas.Bool.{leb-true, eqb-true, le-leb, eq-eqb}
use Rattle.fault.specs.declared.Rule.TheVariants.{Truncated, Trailing, Mask, Octets}
use Rattle.fault.specs.Faults.{fault}
use Rattle.wire.specs.Words.{word}
use Rattle.wire.proofs.Taking.{passed}
use Rattle.inet.specs.declared.address.IpAddr.TheVariants.{V4, V6}
use Rattle.inet.specs.Recv.{inet, mask_of, inet_recv}

-- a mask was answered: all tests were passed
pub record Right (widest count : ℕ) (bs : List ℕ) (mask : ℕ) : Type 0 where
  pub narrow : mask ≤ widest
  pub counted : get_or bs 3 0 ≡ count
  pub long : length bs ≡ 4 + count
  pub is : mask ≡ get_or bs 1 0

pub right : (widest count : ℕ) (bs : List ℕ) (mask : ℕ) → Ok mask ≡ mask_of widest count bs → Right widest count bs mask
right widest count bs mask e =
    let p = passed (leb (get_or bs 1 0) widest) _ (fault Mask 1) mask e in
    let q = passed (eqb (get_or bs 3 0) count) _ (fault Octets 3) mask p.1 in
    let r = passed (leb (4 + count) (length bs)) _ (fault Truncated 4) mask q.1 in
    let s = passed (leb (length bs) (4 + count)) _ (fault Trailing (4 + count)) mask r.1 in
    let m : mask ≡ get_or bs 1 0 = let t = s.1 in cc in
    record {
      narrow = omega (arith, leb-true _ _ p.0);
      counted = eqb-true _ _ q.0;
      long = omega (arith, leb-true _ _ r.0, leb-true _ _ s.0);
      is = m;
    }

module _ (bs : List ℕ) (head : 4 ≤ length bs) (mask : ℕ) where
  pub recv_4 : get_or bs 0 0 ≡ 2 → Ok mask ≡ mask_of 32 4 bs → inet_recv bs ≡ Ok (inet (V4 (word 4 bs 4)) mask)
  recv_4 family e =
      let t = le-leb 4 (length bs) head in
      let u = eq-eqb (get_or bs 0 0) 2 family in
      rw (t, u, ← e)

  pub recv_6 : get_or bs 0 0 ≡ 3 → Ok mask ≡ mask_of 128 16 bs → inet_recv bs ≡ Ok (inet (V6 (word 8 bs 4) (word 8 bs 12)) mask)
  recv_6 family e =
      let t = le-leb 4 (length bs) head in
      simp (t, family, ← e)
