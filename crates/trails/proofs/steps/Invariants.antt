-- `trails::steps` meets its contract. The loop's invariant: the route from where it is, over the nodes passed, is the whole. The measure is the cost. Assumes nothing.
use mathlib.Core.List.{[]}
use lib.ListN.{get_or}
use Rattle.trails.specs.Trail.{route_of}
use Rattle.trails.proofs.Climb.{Stepping}
use Rattle.trails.proofs.steps.Given as goal

abbrev pub invariant-loop-i : goal.invariant-loop-i
invariant-loop-i l = Stepping l.parent l.cost l.count (route_of l.parent (get_or l.cost l.at 0) l.at []) l.i l.n

abbrev pub decreases-loop-i : goal.decreases-loop-i
decreases-loop-i l = get_or l.cost l.i 0
