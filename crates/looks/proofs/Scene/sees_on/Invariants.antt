-- `looks::Scene::sees_on` meets its contract. The invariant: the number is that of a cell from which the answer is to be found (`Numbered`). Assumes nothing.
use Prim.Native.Nat.{◌-◌}
use Rattle.stops.specs.Stops.{stops_at}
use Rattle.looks.specs.Looks.{run_on}
use Rattle.looks.proofs.Steps.{Looking}
use Rattle.looks.proofs.Scene.sees_on.Given as goal

abbrev pub invariant-loop : goal.invariant-loop
invariant-loop l = Looking l.self.blocked.now l.self.plan.now.w l.self.plan.now.h (stops_at l.self.forced.now l.self.goals.now l.self.plan.now l.d) l.ox l.oy 70 (run_on l.self.blocked.now l.self.plan.now (stops_at l.self.forced.now l.self.goals.now l.self.plan.now l.d) l.d 70 l.fn.c.x l.fn.c.y 1) (l.end - l.counter) l.i
