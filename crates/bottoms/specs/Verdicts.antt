-- What the validators at the bottom answer: each reads its format to the end.
use Rattle.std.specs.Prelude.{ℕ, Ok, Result}
use Rattle.fault.specs.declared.Fault.{Fault}
use Rattle.wire.specs.Words.{then}
use Rattle.geometry.specs.Recv.{point_recv, box_recv}
use Rattle.hstore.specs.Recv.{hstore_recv, read_entry}
use Rattle.inet.specs.Recv.{inet_recv}
use Rattle.path.specs.Recv.{path_recv, read_point, at_points}
use Rattle.scalar.specs.Words.{int4_recv, int8_recv}
use Rattle.text.specs.Recv.{text_recv}
use Rattle.validator.specs.Verdicts.{Outcome, Verdict, to_end}
use Rattle.varbit.specs.Recv.{varbit_recv}

-- bytes that are read are accepted
abbrev pub accepted : {X : Type 0} → Result X Fault → Outcome
accepted r = then r (λ _. Ok tt)

-- a part that was read is accepted: nothing is below
abbrev pub pass : {X : Type 0} → ℕ → X → Outcome
pass at x = Ok tt

abbrev pub int4_verdict : Verdict
int4_verdict bs = accepted (int4_recv bs)

abbrev pub int8_verdict : Verdict
int8_verdict bs = accepted (int8_recv bs)

abbrev pub text_verdict : Verdict
text_verdict bs = accepted (text_recv bs)

abbrev pub point_verdict : Verdict
point_verdict bs = accepted (point_recv bs)

abbrev pub box_verdict : Verdict
box_verdict bs = accepted (box_recv bs)

abbrev pub varbit_verdict : Verdict
varbit_verdict bs = accepted (varbit_recv bs)

abbrev pub inet_verdict : Verdict
inet_verdict bs = accepted (inet_recv bs)

-- opened, then every point read
abbrev pub path_verdict : Verdict
path_verdict bs = then (path_recv bs) (λ o. to_end read_point pass (at_points o))

-- opened, then every entry read
abbrev pub hstore_verdict : Verdict
hstore_verdict bs = then (hstore_recv bs) (λ s. to_end read_entry pass s)
