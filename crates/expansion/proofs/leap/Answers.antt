-- `expansion::leap` meets its contract. Assumes nothing.
use native.Mathlib.Omega.{arith}
use Rattle.offers.proofs.Laws.{area_low}
use Rattle.expansion.proofs.Leaps.{place_le, leap_ready}
use Rattle.expansion.proofs.leap.Goals as goal

pub cell_of-node-requires : goal.cell_of-node-requires
cell_of-node-requires c =
    let f = c.requires in
    (f.0.sides.wide, omega (arith, place_le _ _ _ _ f.0 f.1.1.1.0, area_low c.args.p f.0.sides))

pub expand-requires : goal.expand-requires
expand-requires c =
    let f = c.requires in
    leap_ready _ _ _ _ _ _ _ _ f.0 f.1.0 f.1.1.0 f.1.1.1.0 f.1.1.1.1.0 f.1.1.1.1.1.0 f.1.1.1.1.1.1 c.place_point-above.ensures c.cell_of-node.ensures
