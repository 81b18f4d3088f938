-- `boundary::barnsling_update` is safe: links that were tested have room. Assumes nothing.
use mathlib.Core.Path.{sym}
use Rattle.boundary.proofs.Lent as L
use Rattle.boundary.proofs.barnsling_update.Goals as goal

pub invariant_of-update : goal.invariant_of-update
invariant_of-update c = record { sides = (L.of_ground c.args.w c.args.h c.args.blocked.now c.args.parent.now c.args.rank.now (sym c.if-not-grounded.ensures)).linked.sides }

pub update-requires : goal.update-requires
update-requires c = let z = L.of_ground c.args.w c.args.h c.args.blocked.now c.args.parent.now c.args.rank.now (sym c.if-not-grounded.ensures) in (z.table, z.linked.forest.in_p, z.linked.forest.in_k)
