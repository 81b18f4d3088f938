-- `boundary::located` is safe: its sides were tested. Assumes nothing.
use mathlib.Core.Path.{sym}
use Rattle.boundary.proofs.Lent as L
use Rattle.boundary.proofs.located.Goals as goal

pub inside-requires : goal.inside-requires
inside-requires c = (L.of_ground c.args.w c.args.h c.args.table.now c.args.parent.now c.args.rank.now (sym c.if-not-grounded.ensures)).linked.sides
