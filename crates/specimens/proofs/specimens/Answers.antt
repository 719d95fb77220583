use Rattle.std.proofs.Common.{refl}
use Rattle.wire.specs.Cursor.{end, more}
use Rattle.specimens.proofs.specimens.Goals as goal

pub returns : goal.returns
returns c = record {
  count = refl;
  hold = record {
    inet_written = refl;
    inet_read = refl;
    inet_mask = refl;
    array_written = refl;
    array_opened = refl;
    array_dimensions = more refl (end refl);
    array_values = more refl (more refl (end refl));
    product_fits = refl;
    product_past = refl;
    varbit_read = refl;
    varbit_short = refl;
    varbit_long = refl;
    range_written = refl;
    range_read = refl;
    range_empty = refl;
    range_trailing = refl;
  };
}
