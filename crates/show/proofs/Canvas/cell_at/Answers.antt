-- `show::Canvas::cell_at` meets its contract: the sides that were tested bound the cells. Assumes nothing.
use Rattle.std.proofs.Common.{sym, arith}
use Rattle.cells.proofs.Cell.{area, sides_of_lem}
use Rattle.cells.specs.Cells.{Sides}
use Rattle.show.proofs.Canvas.cell_at.Goals as goal

pub cell_of-cell-requires : goal.cell_of-cell-requires
cell_of-cell-requires c =
    let a = c.args.self.now in
    let s : Sides a.width a.height = sides_of_lem (sym c.if-not-sized.ensures) in
    (s.wide, s.high)

pub overflow_mul-self : goal.overflow_mul-self
overflow_mul-self c =
    let a = c.args.self.now in
    let s : Sides a.width a.height = sides_of_lem (sym c.if-not-sized.ensures) in
    omega (arith, area a.width a.height s.wide s.high)

pub returns : goal.returns
returns c =
    let a = c.args.self.now in
    let s : Sides a.width a.height = sides_of_lem (sym c.if-not-sized.ensures) in
    omega (arith, area a.width a.height s.wide s.high)
