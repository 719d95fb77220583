-- The answers that requests share.
use Rattle.std.specs.Prelude.{ℕ, suc, ◌+◌, ◌-◌, ◌*◌, ◌^◌, min, Bool, cond, List, [], ◌∷◌, ◌++◌, take, ℤ, pos, negsuc, Some, None, Ok, Err, codes, decimal, Option, Result}
use Rattle.std.specs.Borrow.{Bor}
use Rattle.std.specs.Option.{option_map}
use Rattle.fault.specs.declared.Fault.{Fault}
use Rattle.syntax.specs.Printed.{byte_string, fault_text}
use Rattle.wire.specs.Encoding.{Encoding}
use Rattle.wire.specs.Words.{Value}

abbrev pub bad_request : List ℕ
bad_request = codes "bad request"

-- refused NUMBER@PLACE/LEVEL
abbrev pub refused : Fault → List ℕ
refused f = codes "refused " ++ fault_text f

-- what an encoder wrote
abbrev pub wrote : Encoding → List ℕ
wrote (Ok bs) = codes "wrote " ++ byte_string bs
wrote (Err f) = refused f

-- a fault in a list
abbrev pub failure : Fault → List ℕ
failure f = 33 ∷ fault_text f

-- NULL, or a byte string
abbrev pub value_text : Value → List ℕ
value_text None = codes "NULL"
value_text (Some bs) = byte_string bs

-- the bytes behind a reference
abbrev pub seen_value : Option (Bor (List ℕ)) → Value
seen_value o = option_map (λ x. x.now) o

-- a signed number in decimal digits
abbrev pub signed_text : ℤ → List ℕ
signed_text (pos n) = decimal n
signed_text (negsuc n) = 45 ∷ decimal (suc n)

-- 1 or 0
abbrev pub flag_text : Bool → List ℕ
flag_text b = cond b (codes "1") (codes "0")

-- texts with a comma between each two
abbrev pub commas : List (List ℕ) → List ℕ
commas [] = []
commas (t ∷ []) = t
commas (t ∷ u ∷ ts) = t ++ (44 ∷ commas (u ∷ ts))

abbrev pub list_text : List (List ℕ) → List ℕ
list_text ts = 91 ∷ (commas ts ++ (93 ∷ []))

-- the answer to an argument, where it is one
abbrev pub answered : {X : Type 0} → (X → List ℕ) → Option X → List ℕ
answered answer (Some x) = answer x
answered answer None = bad_request

-- the bytes of the part that an encoder is lent for an argument of n bytes: more than any value that n bytes spell
abbrev pub room : ℕ → ℕ
room n = min (4 * n + 16) (2 ^ 64 - 1)

-- what an encoder answered, with the bytes that the part holds then
abbrev pub held : Result ℕ Fault → List ℕ → Encoding
held (Ok n) part = Ok (take n part)
held (Err f) part = Err f
