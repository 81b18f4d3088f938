-- `refresh::touch_all` meets its contract. Assumes nothing.
use mathlib.Core.Path.{◌≡◌}
use Rattle.refresh.specs.Refresh.{touched_to}
use Rattle.refresh.proofs.touch_all.Given as goal

abbrev pub invariant-loop-d : goal.invariant-loop-d
invariant-loop-d l = l.neighbours ≡ touched_to l.at.w l.at.h l.initial.neighbours l.at.x l.at.y l.on l.d
