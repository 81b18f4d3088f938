-- `boundary::asked` is safe: its sides were tested. Assumes nothing.
use mathlib.Core.Path.{sym}
use Rattle.boundary.proofs.Lent as L
use Rattle.boundary.proofs.asked.Goals as goal

pub cell_of-requires : goal.cell_of-requires
cell_of-requires c = let z = L.of_links c.args.w c.args.h c.args.parent.now c.args.rank.now (sym c.if-not-linked.ensures) in (z.sides.wide, z.sides.high)

pub cell_of-requires-2 : goal.cell_of-requires-2
cell_of-requires-2 c = let z = L.of_links c.args.w c.args.h c.args.parent.now c.args.rank.now (sym c.if-not-linked.ensures) in (z.sides.wide, z.sides.high)
