-- The life of a sheet: blank, then any calls in any order, refused ones included.
use Rattle.std.specs.Prelude.{◌≡◌, ℕ, ◌^◌, ◌<◌, ◌≤◌, List, [], ◌∷◌, ◌++◌, map, length, take, drop, Ok, Result}
use Rattle.std.specs.List.{AllByRecursion}
use Rattle.fault.specs.declared.Fault.{Fault}
use Rattle.array.specs.Laws.{Words}
use Rattle.content.specs.Calls.{Content, null, column, array, range, empty_range, hstore, varbit, point, box, path, inet}
use Rattle.geometry.specs.Laws.{Doubles}
use Rattle.inet.specs.Layout.{Whole}
use Rattle.serializer.specs.Lists.{Short, item_at}
use Rattle.sheet.specs.declared.sheet.Sheet.{Sheet}
use Rattle.sheet.specs.Filing.{Did, blank_bytes, told_blank}
use Rattle.wire.specs.Encoding.{laid, room_for}
use Rattle.agreement.specs.Book.{Call}

-- a call and its answer
abbrev pub Done : Type 0
Done = Call × Result (Unit {0}) Fault

-- calls one behind another, each lent the first bytes of one buffer; each step is what the contract of the call ensures
pub data Run : Sheet → List ℕ → List Done → Sheet → List ℕ → Type 0 where
  end : {s : Sheet} {b : List ℕ} → Run s b [] s b
  call : {s t u : Sheet} {b d e : List ℕ} {c : Call} {r : Result (Unit {0}) Fault} {cs : List Done}
      → c.room ≤ length b → Did s (take c.room b) c.oid c.content r t d → Run t (d ++ drop c.room b) cs u e → Run s b ((c, r) ∷ cs) u e

-- a sheet that was blank and then took or refused these calls; nothing else wrote it or its buffer
pub record Filed (cs : List Done) (s : Sheet) (b : List ℕ) : Type 0 where
  pub start : List ℕ
  pub first : Sheet
  pub blank : told_blank (length start) ≡ Ok first
  pub run : Run first (laid (room_for (length start) (Ok blank_bytes)) start) cs s b

-- the numbers of a call are those of their types, and a serializer keeps its promise
abbrev pub TypedContent : Content → Type 0
TypedContent null = Unit {0}
TypedContent (column is k) = (j : ℕ) → Short (item_at is j)
TypedContent (array oid ds is) = (oid < 2 ^ 32) × AllByRecursion Words ds × ((j : ℕ) → Short (item_at is j))
TypedContent (range lower upper is) = (j : ℕ) → Short (item_at is j)
TypedContent empty_range = Unit {0}
TypedContent (hstore ps es) = Unit {0}
TypedContent (varbit bits bytes) = Unit {0}
TypedContent (point p) = Doubles p
TypedContent (box b) = Doubles b.upper_right × Doubles b.lower_left
TypedContent (path closed ps) = AllByRecursion Doubles ps
TypedContent (inet a mask) = Whole a

abbrev pub Typed : Done → Type 0
Typed d = (d.0.oid < 2 ^ 32) × TypedContent d.0.content

-- the calls of a life, without their answers
abbrev pub calls : List Done → List Call
calls cs = map (λ d. d.0) cs
