-- Texts and addresses: what is answered where one is read, and how an address is spelled.
use Rattle.std.specs.Prelude.{ℕ, cond, ◌&&◌, List, ◌∷◌, ◌++◌, length, take, drop, Some, None, Ok, Err, codes, decimal, Option, Result, ◌==◌}
use Rattle.std.specs.Int.Digits.{number_from_digits}
use Rattle.std.specs.Str.{bytes_eq}
use Rattle.fault.specs.declared.Fault.{Fault}
use Rattle.answers.specs.Plain.{refused}
use Rattle.inet.specs.declared.address.Inet.{Inet}
use Rattle.inet.specs.declared.address.IpAddr.{IpAddr}
use Rattle.inet.specs.declared.address.IpAddr.TheVariants.{V4, V6}
use Rattle.inet.specs.Layout.{octets}
use Rattle.inet.specs.Recv.{inet}
use Rattle.syntax.specs.Parsed.{number_in, split_at, unhex}
use Rattle.syntax.specs.Printed.{hex}

abbrev pub text_answer : Result (List ℕ) Fault → List ℕ
text_answer (Ok bs) = codes "text ok"
text_answer (Err f) = refused f

-- an address: v4: or v6:, its octets in hexadecimal, / and the mask
abbrev pub version : IpAddr → List ℕ
version (V4 a) = codes "v4:"
version (V6 high low) = codes "v6:"

abbrev pub address_text : Inet → List ℕ
address_text i = version i.addr ++ (hex (octets i.addr) ++ (47 ∷ decimal i.netmask))

abbrev pub inet_answer : Result Inet Fault → List ℕ
inet_answer (Ok i) = codes "inet " ++ address_text i
inet_answer (Err f) = refused f

-- the address of a version with these octets: four of them, or sixteen
abbrev pub address_of : List ℕ → List ℕ → Option IpAddr
address_of name bs =
    cond (bytes_eq name (codes "v4") && length bs == 4) (Some (V4 (number_from_digits 256 bs)))
    (cond (bytes_eq name (codes "v6") && length bs == 16) (Some (V6 (number_from_digits 256 (take 8 bs)) (number_from_digits 256 (drop 8 bs)))) None)

abbrev pub address_octets : List ℕ → Option (List ℕ) → Option IpAddr
address_octets name (Some bs) = address_of name bs
address_octets name None = None

abbrev pub address_parts : Option (List ℕ × List ℕ) → Option IpAddr
address_parts (Some p) = address_octets p.0 (unhex p.1)
address_parts None = None

abbrev pub both : Option IpAddr → Option ℕ → Option Inet
both (Some a) (Some mask) = Some (inet a mask)
both (Some a) None = None
both None (Some mask) = None
both None None = None

abbrev pub inet_parts : Option (List ℕ × List ℕ) → Option Inet
inet_parts (Some p) = both (address_parts (split_at 58 p.0)) (number_in 255 p.1)
inet_parts None = None

-- the address that a word is
abbrev pub inet_in : List ℕ → Option Inet
inet_in ws = inet_parts (split_at 47 ws)
