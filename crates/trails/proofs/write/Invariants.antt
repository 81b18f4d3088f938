-- `trails::write` meets its contract. The loop's invariant: the points of the nodes passed stand at the end. Assumes nothing.
use mathlib.Core.List.{[]}
use lib.ListN.{get_or}
use Rattle.trails.specs.Trail.{route_of}
use Rattle.trails.proofs.Climb.{Writing}
use Rattle.trails.proofs.write.Given as goal

abbrev pub invariant-loop-j : goal.invariant-loop-j
invariant-loop-j l = Writing l.parent l.cost l.count (route_of l.parent (get_or l.cost l.at 0) l.at []) l.p l.place l.initial.out l.out l.i l.j
