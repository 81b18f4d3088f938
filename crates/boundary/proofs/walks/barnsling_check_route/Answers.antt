-- `boundary::walks::barnsling_check_route` is safe: the sides and the table were tested. Assumes nothing.
use mathlib.Core.Path.{sym}
use Rattle.boundary.proofs.Lent as L
use Rattle.boundary.proofs.walks.barnsling_check_route.Goals as goal

pub check_list-requires : goal.check_list-requires
check_list-requires c =
    let a = c.args in
    let z = L.of_ground a.w a.h a.blocked.now a.parent.now a.rank.now (sym c.if-not-grounded.ensures) in
    (z.linked.sides.wide, z.linked.sides.high, z.table)
