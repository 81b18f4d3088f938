-- `boundary::linked` is safe: sides that are in range have few cells. Assumes nothing.
use native.Mathlib.Omega.{arith}
use mathlib.Core.Path.{sym}
use Rattle.cells.proofs.Cell.{area, sides_of_lem}
use Rattle.boundary.proofs.linked.Goals as goal

pub overflow_mul-w : goal.overflow_mul-w
overflow_mul-w c = let z = sides_of_lem (sym c.if-sized.ensures) in omega (arith, area c.args.w c.args.h z.wide z.high)
