-- `search::search`: the invariant is `Searching`, that the definition goes on from the state in the room; the measure is the pops left. Assumes nothing.
use Prim.Native.Nat.{◌-◌}
use Rattle.search.proofs.Turns.{Searching}
use Rattle.expansion.specs.Expand.{tables}
use Rattle.search.proofs.search.Given as goal

abbrev pub invariant-loop-work : goal.invariant-loop-work
invariant-loop-work l = Searching (tables l.blocked l.neighbours l.forced l.goals) l.p l.start l.fn.work l.work l.pops

abbrev pub decreases-loop-work : goal.decreases-loop-work
decreases-loop-work l = l.p.settings.pops - l.pops
