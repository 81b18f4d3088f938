-- `boundary::barnsling_rebuild` is safe: links that were tested have room. Assumes nothing.
use mathlib.Core.Path.{sym}
use Rattle.boundary.proofs.Lent as L
use Rattle.boundary.proofs.barnsling_rebuild.Goals as goal

pub invariant_of-rebuild : goal.invariant_of-rebuild
invariant_of-rebuild c = record { sides = (L.of_ground c.args.w c.args.h c.args.blocked.now c.args.parent.now c.args.rank.now (sym c.if-not-grounded.ensures)).linked.sides }

pub rebuild-requires : goal.rebuild-requires
rebuild-requires c = let z = L.of_ground c.args.w c.args.h c.args.blocked.now c.args.parent.now c.args.rank.now (sym c.if-not-grounded.ensures) in (z.table, z.linked.forest.in_p, z.linked.forest.in_k)
