-- `boundary::barnsling_neighbours_reachable` is safe: links that were tested are a forest. Assumes nothing.
use Rattle.boundary.proofs.Lent as L
use Rattle.boundary.proofs.barnsling_neighbours_reachable.Goals as goal

pub neighbours_reachable-requires : goal.neighbours_reachable-requires
neighbours_reachable-requires c = let z = L.of_asked c.args.w c.args.h c.args.parent.now c.args.rank.now c.point.result c.point-2.result _ c.in-Ok.ensures in (z.sides, z.forest)
