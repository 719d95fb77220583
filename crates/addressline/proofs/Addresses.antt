-- Addresses as words, and as they are written.
use Rattle.std.proofs.Common.{◌≡◌, ℕ, ◌≤◌, List, [], ◌∷◌, ◌++◌, length, Ok, codes, sym, refl, ap, ◌∙◌, arith}
use Rattle.std.proofs.lemmas.List.{append_assoc}
use Rattle.wire.specs.Encoding.{room_for}
use Rattle.wire.specs.Words.{be}
use Rattle.wire.proofs.Writing.{roomy}
use Rattle.inet.specs.declared.address.IpAddr.{IpAddr}
use Rattle.inet.specs.declared.address.IpAddr.TheVariants.{V4, V6}
use Rattle.inet.specs.Layout.{octets, inet_layout}
use Rattle.syntax.specs.Printed.{hex, hex_byte}
use Rattle.addressline.specs.Addresses.{version}

hex_append : (xs ys : List ℕ) → hex (xs ++ ys) ≡ hex xs ++ hex ys
hex_append [] ys = refl
hex_append (x ∷ xs) ys = ap (λ l. hex_byte x ++ l) (hex_append xs ys)

-- an address, part by part
pub v4_parts : (out : List ℕ) (addr : IpAddr) (bits : ℕ) (bytes : List ℕ) → addr ≡ V4 bits → bytes ≡ be 4 bits → (out ++ codes "v4:") ++ hex bytes ≡ out ++ (version addr ++ hex (octets addr))
v4_parts out addr bits bytes is e =
    append_assoc out (codes "v4:") (hex bytes)
    ∙ ap (λ bs. out ++ (codes "v4:" ++ hex bs)) e
    ∙ ap (λ a. out ++ (version a ++ hex (octets a))) (sym is)

pub v6_parts : (out : List ℕ) (addr : IpAddr) (high low : ℕ) (first second : List ℕ) → addr ≡ V6 high low → first ≡ be 8 high → second ≡ be 8 low → ((out ++ codes "v6:") ++ hex first) ++ hex second ≡ out ++ (version addr ++ hex (octets addr))
v6_parts out addr high low first second is p q =
    append_assoc (out ++ codes "v6:") (hex first) (hex second)
    ∙ ap (λ l. (out ++ codes "v6:") ++ l) (sym (hex_append first second))
    ∙ append_assoc out (codes "v6:") (hex (first ++ second))
    ∙ ap (λ bs. out ++ (codes "v6:" ++ hex (bs ++ second))) p
    ∙ ap (λ bs. out ++ (codes "v6:" ++ hex (be 8 high ++ bs))) q
    ∙ ap (λ a. out ++ (version a ++ hex (octets a))) (sym is)

layout_long : (a : IpAddr) (mask : ℕ) → length (inet_layout a mask) ≤ 20
layout_long (V4 a) mask = omega arith
layout_long (V6 high low) mask = omega arith

-- a part of 20 bytes takes every address
pub layout_fits : (a : IpAddr) (mask : ℕ) → room_for 20 (Ok (inet_layout a mask)) ≡ Ok (inet_layout a mask)
layout_fits a mask = roomy 20 (inet_layout a mask) refl (layout_long a mask)
