-- `boundary::barnsling_blocked_at` is safe: a cell that is found is in the table. Assumes nothing.
use native.Mathlib.Omega.{arith}
use Rattle.boundary.proofs.Lent as L
use Rattle.boundary.proofs.barnsling_blocked_at.Goals as goal

pub bounds-blocked-i : goal.bounds-blocked-i
bounds-blocked-i c = let z = L.of_located c.args.w c.args.h c.args.blocked.now c.args.parent.now c.args.rank.now c.point.result c.in-Ok.i c.in-Ok.ensures in omega (arith, z.ground.table, z.inside.spot, z.inside.cell)
