use Rattle.std.proofs.Common.{subst}
use Rattle.sheet.specs.Filing.{Files}
use Rattle.sheet.proofs.Contents.{array_item}
use Rattle.sheet.proofs.sheet.Sheet.array.Goals as goal

pub returns : goal.returns
returns g c =
    let s = c.args.self.now in
    subst (λ i. Files s c.args.buffer.now c.args.oid i c.file.result c.file.new.self c.file.new.buffer) (array_item c.args.element c.args.dims.now (g.S.Serializer.items c.args.serializer.now)) c.file.ensures
