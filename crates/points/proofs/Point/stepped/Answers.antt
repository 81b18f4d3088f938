use mir.Facts.{and_yes}
use Rattle.points.specs.Plane.{in_range}
use Rattle.points.specs.Compass.{dx_of, dy_of}
use Rattle.points.proofs.Signed.{step_fits, step_read, dx_small, dy_small}
use Rattle.points.proofs.Point.stepped.Goals as goal

pub overflow_add-result : goal.overflow_add-result
overflow_add-result c = step_fits c.args.self.x c.dx.result (dx_of c.args.d.number) ((and_yes (in_range c.args.self.x) (in_range c.args.self.y) c.requires)).0 c.dx.ensures (dx_small c.args.d.number)

pub overflow_add-result-2 : goal.overflow_add-result-2
overflow_add-result-2 c = step_fits c.args.self.y c.dy.result (dy_of c.args.d.number) ((and_yes (in_range c.args.self.x) (in_range c.args.self.y) c.requires)).1 c.dy.ensures (dy_small c.args.d.number)

pub returns : goal.returns
returns c =
    let n = c.args.d.number in
    let ex = step_read c.args.self.x c.dx.result (dx_of n) ((and_yes (in_range c.args.self.x) (in_range c.args.self.y) c.requires)).0 c.dx.ensures (dx_small n) in
    let ey = step_read c.args.self.y c.dy.result (dy_of n) ((and_yes (in_range c.args.self.x) (in_range c.args.self.y) c.requires)).1 c.dy.ensures (dy_small n) in
    λ i. record { x = ex i; y = ey i }
