-- `boundary::held` is safe: sides that are in range have few cells. Assumes nothing.
use native.Mathlib.Omega.{arith}
use mathlib.Core.Path.{sym}
use Rattle.boundary.proofs.Lent as L
use Rattle.boundary.proofs.held.Goals as goal

pub overflow_mul-w : goal.overflow_mul-w
overflow_mul-w c = let z = L.of_links c.args.w c.args.h c.args.parent.now c.args.rank.now (sym c.if-linked.ensures) in omega (arith, z.cells)
