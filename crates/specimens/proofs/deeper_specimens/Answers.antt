use Rattle.std.proofs.Common.{refl}
use Rattle.text.specs.Recv.{character}
use Rattle.wire.specs.Cursor.{end, more}
use Rattle.specimens.proofs.deeper_specimens.Goals as goal

pub returns : goal.returns
unfolding character
returns c = record {
  count = refl;
  hold = record {
    hstore_written = refl;
    hstore_opened = refl;
    hstore_entries = more refl (more refl (end refl));
    cut_layers = refl;
    cut_pile = refl;
  };
}
