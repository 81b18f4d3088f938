-- `boundary::barnsling_component` is safe: links that were tested are a forest. Assumes nothing.
use native.Mathlib.Omega.{arith}
use mathlib.Core.Path.{sym}
use Rattle.components.proofs.Roots.{weaken}
use Rattle.boundary.proofs.Lent as L
use Rattle.boundary.proofs.barnsling_component.Goals as goal

pub inside-requires : goal.inside-requires
inside-requires c = (L.of_links c.args.w c.args.h c.args.parent.now c.args.rank.now (sym c.if-not-linked.ensures)).sides

pub overflow_mul-w : goal.overflow_mul-w
overflow_mul-w c = let z = L.of_links c.args.w c.args.h c.args.parent.now c.args.rank.now (sym c.if-not-linked.ensures) in omega (arith, z.cells)

pub find-requires : goal.find-requires
find-requires c =
    let z = L.of_links c.args.w c.args.h c.args.parent.now c.args.rank.now (sym c.if-not-linked.ensures) in
    let a = L.of_inside c.args.w c.args.h c.point.result c.in-Ok.i c.in-Ok.ensures in
    (weaken 255 (omega arith) z.forest, omega (arith, a.spot, a.cell))
