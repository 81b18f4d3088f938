-- `boundary::barnsling_direction` meets its contract: the points are made. Assumes nothing.
use mathlib.Core.Path.{◌≡◌, ap, ◌∙◌}
use mir.Facts.{to_z-of_z}
use Rattle.headings.specs.Headings.{direction_of}
use Rattle.points.specs.declared.Point.{Point}
use Rattle.packing.specs.Packing.{point_of, heading_packed}
use Rattle.boundary.proofs.barnsling_direction.Goals as goal

pub returns : goal.returns
returns c =
    let p = point_of c.args.ax c.args.ay in
    let first : c.point.result ≡ p = simp (to_z-of_z c.ranges.ax, to_z-of_z c.ranges.ay) at c.point.ensures in
    let second : c.point-2.result ≡ point_of c.args.bx c.args.by = simp (to_z-of_z c.ranges.bx, to_z-of_z c.ranges.by) at c.point-2.ensures in
    c.direction.ensures
    ∙ ap (λ (a : Point). heading_packed (direction_of a c.point-2.result) a) first
    ∙ ap (λ (b : Point). heading_packed (direction_of p b) p) second
