use Rattle.std.proofs.lemmas.List.{length-map}
use Rattle.serializer.proofs.elements.ElementListSerializer.count.Goals as goal

pub returns : goal.returns
returns g c = simp length-map
