-- `boundary::grounded` is safe: sides that are in range have few cells. Assumes nothing.
use native.Mathlib.Omega.{arith}
use mathlib.Core.Path.{sym}
use Rattle.boundary.proofs.Lent as L
use Rattle.boundary.proofs.grounded.Goals as goal

pub overflow_mul-result : goal.overflow_mul-result
overflow_mul-result c = let z = L.of_links c.args.w c.args.h c.args.parent.now c.args.rank.now (sym c.if-linked.ensures) in omega (arith, z.cells)
