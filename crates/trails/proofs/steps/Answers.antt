-- `trails::steps` meets its contract. The loop's invariant: the route from where it is, over the nodes passed, is the whole. The measure is the cost. Assumes nothing.
use mathlib.Core.Path.{ap}
use mathlib.Core.List.{◌∷◌}
use native.Mathlib.Omega.{arith}
use lib.ListN.{length}
use Rattle.trails.proofs.Climb.{climb_next, climb_end}
use Rattle.trails.proofs.steps.Goals as goal

pub loop-i-preserved : goal.loop-i-preserved
loop-i-preserved c = record { acc = c.loop-i.i ∷ c.loop-i.invariant.acc; here = climb_next _ _ _ _ c.requires.0 _ _ _ c.loop-i.invariant.here c.loop-i-test.true }

pub returns : goal.returns
returns c =
    let e = climb_end _ _ _ _ _ _ _ c.loop-i.invariant.here c.loop-i-test.false in
    (omega (arith, c.loop-i.invariant.here.long, ap length e), omega (arith, c.loop-i.invariant.here.long))
