-- `goals::among` meets its contract: what is left of the list says the same as the whole. Assumes nothing.
use Rattle.std.proofs.Common.{◌≡◌, ◌-◌}
use Rattle.goals.specs.Goals.{among_to}
use Rattle.goals.proofs.among.Given as goal

abbrev pub invariant-loop-i : goal.invariant-loop-i
invariant-loop-i l = among_to l.goals l.at (l.n - l.i) l.i ≡ among_to l.goals l.at l.n 0
