-- `boundary::barnsling_pruned_at` is safe: a cell that is found is in the table. Assumes nothing.
use native.Mathlib.Omega.{arith}
use Rattle.boundary.proofs.Lent as L
use Rattle.boundary.proofs.barnsling_pruned_at.Goals as goal

pub bounds-neighbours-i : goal.bounds-neighbours-i
bounds-neighbours-i c = let z = L.of_located c.args.w c.args.h c.args.neighbours.now c.args.parent.now c.args.rank.now c.point.result c.in-Ok.i c.in-Ok.ensures in omega (arith, z.ground.table, z.inside.spot, z.inside.cell)
