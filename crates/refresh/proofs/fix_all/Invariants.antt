-- `refresh::fix_all` meets its contract. Assumes nothing.
use mathlib.Core.Path.{◌≡◌}
use Rattle.refresh.specs.Refresh.{fixed_to}
use Rattle.refresh.proofs.fix_all.Given as goal

abbrev pub invariant-loop-d : goal.invariant-loop-d
invariant-loop-d l = l.forced ≡ fixed_to l.at.w l.at.h l.diagonal l.neighbours l.initial.forced l.at.x l.at.y l.d
