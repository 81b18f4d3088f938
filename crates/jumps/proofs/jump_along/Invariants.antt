-- `jumps::jump_along` meets its contract. The invariant: what is to be found from here is the answer, and the number is that of the cell (`Numbered`). Assumes nothing.
use Prim.Native.Nat.{◌-◌}
use Rattle.stops.specs.Stops.{price_of}
use Rattle.looks.specs.Looks.{run_on}
use Rattle.jumps.specs.Jumps.{halts_at}
use Rattle.looks.proofs.Steps.{Numbered}
use Rattle.jumps.proofs.jump_along.Given as goal

abbrev pub invariant-loop : goal.invariant-loop
invariant-loop l = Numbered l.scene.blocked.now l.scene.plan.now.w l.scene.plan.now.h (halts_at l.scene.blocked.now l.scene.forced.now l.scene.goals.now l.scene.plan.now l.d) l.ox l.oy l.step (run_on l.scene.blocked.now l.scene.plan.now (halts_at l.scene.blocked.now l.scene.forced.now l.scene.goals.now l.scene.plan.now l.d) l.d (price_of l.d) l.fn.from.x l.fn.from.y l.initial.cost) l.at.x l.at.y l.cost (l.end - l.counter) l.i
