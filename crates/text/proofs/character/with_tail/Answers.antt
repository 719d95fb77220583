use Rattle.std.proofs.Common.{◌≡◌, ◌*◌, ◌%◌, arith}
use Rattle.std.proofs.lemmas.Nat.{and_mask, or_shifted}
use Rattle.text.proofs.character.with_tail.Goals as goal

pub returns : goal.returns
returns c =
    let bits = c.args.bits in
    let octet = c.args.octet in
    let whole : bits * 64 % 4294967296 ≡ bits * 64 = omega arith in
    let low : c.from.result ≡ octet % 64 = omega (arith, and_mask octet 6) in
    rw (whole, low) (or_shifted bits 6 (octet % 64) (omega arith))
