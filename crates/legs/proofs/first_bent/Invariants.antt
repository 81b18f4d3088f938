-- `legs::first_bent` meets its contract: the first bent leg from here on is the whole list's. Assumes nothing.
use Rattle.std.proofs.Common.{◌≡◌, ◌*◌, T, None, drop}
use Rattle.points.specs.Plane.{legal}
use Rattle.pairs.specs.Pairs.{first_bad}
use Rattle.legs.specs.Legs.{bent_from, first_bent_of}
use Rattle.legs.proofs.first_bent.Given as goal

abbrev pub invariant-loop-k : goal.invariant-loop-k
invariant-loop-k l = T (legal l.p) × (first_bad (drop (2 * l.k) l.list) ≡ None) × (bent_from l.k l.p (drop (2 * l.k) l.list) ≡ first_bent_of l.list)
