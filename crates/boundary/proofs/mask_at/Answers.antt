-- `boundary::mask_at` is safe: a cell that is found is in the table. Assumes nothing.
use native.Mathlib.Omega.{arith}
use Rattle.boundary.proofs.Lent as L
use Rattle.boundary.proofs.mask_at.Goals as goal

pub bounds-table-i : goal.bounds-table-i
bounds-table-i c = let z = L.of_located c.args.w c.args.h c.args.table.now c.args.parent.now c.args.rank.now c.args.p c.in-Ok.i c.in-Ok.ensures in omega (arith, z.ground.table, z.inside.spot, z.inside.cell)
