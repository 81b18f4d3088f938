-- `boundary::barnsling_new` is safe: tables that were tested have room. Assumes nothing.
use native.Mathlib.Omega.{arith}
use mathlib.Core.Path.{sym}
use Rattle.cells.proofs.Cell.{area, sides_of_lem}
use Rattle.boundary.proofs.Lent as L
use Rattle.boundary.proofs.barnsling_new.Goals as goal

pub overflow_mul-w : goal.overflow_mul-w
overflow_mul-w c = let z = sides_of_lem (sym c.if-not-sized.ensures) in omega (arith, area c.args.w c.args.h z.wide z.high)

pub invariant_of-new : goal.invariant_of-new
invariant_of-new c = record { sides = sides_of_lem (sym c.if-not-sized.ensures) }

pub new-requires : goal.new-requires
new-requires c = L.of_roomy c.args.w c.args.h c.args.blocked.now c.args.neighbours.now c.args.forced.now c.args.parent.now c.args.rank.now (sym c.if-not-roomy.ensures)
