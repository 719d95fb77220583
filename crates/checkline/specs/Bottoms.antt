-- What the nine formats at the bottom answer.
use Rattle.std.specs.Prelude.{ℕ, List}
use Rattle.bottoms.specs.Places.{int4_within, int8_within, text_within, point_within, box_within, path_within, varbit_within, hstore_within, inet_within}
use Rattle.bottoms.specs.Verdicts.{int4_verdict, int8_verdict, text_verdict, point_verdict, box_verdict, path_verdict, varbit_verdict, hstore_verdict, inet_verdict}
use Rattle.validator.specs.Verdicts.{Verdict, Within}
use Rattle.checkline.specs.declared.bottom.Bottom.{Bottom}
use Rattle.checkline.specs.declared.bottom.Bottom.TheVariants.{Int4, Int8, Text, Point, Box, Path, Varbit, Hstore, Inet}

abbrev pub bottom_verdict : Bottom → Verdict
bottom_verdict Int4 = int4_verdict
bottom_verdict Int8 = int8_verdict
bottom_verdict Text = text_verdict
bottom_verdict Point = point_verdict
bottom_verdict Box = box_verdict
bottom_verdict Path = path_verdict
bottom_verdict Varbit = varbit_verdict
bottom_verdict Hstore = hstore_verdict
bottom_verdict Inet = inet_verdict

pub bottom_within : (b : Bottom) (bs : List ℕ) → Within bs (bottom_verdict b bs)
bottom_within Int4 = int4_within
bottom_within Int8 = int8_within
bottom_within Text = text_within
bottom_within Point = point_within
bottom_within Box = box_within
bottom_within Path = path_within
bottom_within Varbit = varbit_within
bottom_within Hstore = hstore_within
bottom_within Inet = inet_within
