use Rattle.std.proofs.Common.{◌≡◌, length, Ok, ap, ◌∙◌}
use Rattle.double.specs.Points.{point}
use Rattle.geometry.specs.Layout.{point_layout}
use Rattle.wire.specs.Encoding.{told, laid, room_for}
use Rattle.content.proofs.formats.PointContentEncoded.write.Goals as goal

pub returns : goal.returns
returns c =
    let p = c.args.self.now.point in
    let part = c.args.part.now in
    let e : point c.x.result c.y.result ≡ p = ap (λ x. point x c.y.result) c.x.ensures ∙ ap (λ y. point p.x y) c.y.ensures in
    record {
      answer = c.point_to_sql.ensures.answer ∙ ap (λ q. told (room_for (length part) (Ok (point_layout q)))) e;
      after = c.point_to_sql.ensures.after ∙ ap (λ q. laid (room_for (length part) (Ok (point_layout q))) part) e;
    }
