-- `goals::least` meets its contract: after i turns it is the least of the first i. Assumes nothing.
use Rattle.std.proofs.Common.{◌≡◌, ◌≤◌}
use Rattle.costs.specs.Cost.{farthest}
use Rattle.goals.specs.Goals.{least_to}
use Rattle.goals.proofs.least.Given as goal

abbrev pub invariant-loop-i : goal.invariant-loop-i
invariant-loop-i l = (l.best ≡ least_to l.goals l.diagonal l.at l.i) × (l.best ≤ farthest)
