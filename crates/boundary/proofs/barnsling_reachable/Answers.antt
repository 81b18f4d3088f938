-- `boundary::barnsling_reachable` is safe: links that were tested are a forest. Assumes nothing.
use native.Mathlib.Omega.{arith}
use Rattle.boundary.proofs.Lent as L
use Rattle.boundary.proofs.barnsling_reachable.Goals as goal

pub overflow_mul-w : goal.overflow_mul-w
overflow_mul-w c = let z = L.of_asked c.args.w c.args.h c.args.parent.now c.args.rank.now c.point.result c.point-2.result _ c.in-Ok.ensures in omega (arith, z.cells)

pub reachable-requires : goal.reachable-requires
reachable-requires c = (L.of_asked c.args.w c.args.h c.args.parent.now c.args.rank.now c.point.result c.point-2.result _ c.in-Ok.ensures).forest
