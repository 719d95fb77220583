use Rattle.std.proofs.Common.{◌≡◌, length, Ok, ap, ◌∙◌}
use Rattle.double.specs.declared.point.Point.{Point}
use Rattle.double.specs.Points.{point, corners}
use Rattle.geometry.specs.Layout.{box_layout}
use Rattle.wire.specs.Encoding.{told, laid, room_for}
use Rattle.content.proofs.formats.BoxContentEncoded.write.Goals as goal

pub returns : goal.returns
returns c =
    let b = c.args.self.now.corners in
    let part = c.args.part.now in
    let upper : point c.x.result c.y.result ≡ b.upper_right = ap (λ x. point x c.y.result) c.x.ensures ∙ ap (λ y. point c.upper_right-upper.result.x y) c.y.ensures ∙ c.upper_right-upper.ensures in
    let lower : point c.x-2.result c.y-2.result ≡ b.lower_left = ap (λ x. point x c.y-2.result) c.x-2.ensures ∙ ap (λ y. point c.lower_left-lower.result.x y) c.y-2.ensures ∙ c.lower_left-lower.ensures in
    let e : corners (point c.x.result c.y.result) (point c.x-2.result c.y-2.result) ≡ b = ap (λ (q : Point). corners q (point c.x-2.result c.y-2.result)) upper ∙ ap (λ (q : Point). corners b.upper_right q) lower in
    record {
      answer = c.box_to_sql.ensures.answer ∙ ap (λ q. told (room_for (length part) (Ok (box_layout q)))) e;
      after = c.box_to_sql.ensures.after ∙ ap (λ q. laid (room_for (length part) (Ok (box_layout q))) part) e;
    }
