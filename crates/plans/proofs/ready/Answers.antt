-- `plans::ready` meets its contract. Assumes nothing.
use Rattle.std.proofs.Common.{arith}
use Rattle.std.proofs.lemmas.Grind.{common_steps}
use Rattle.plans.specs.Plans.{ready_of}
use Rattle.plans.proofs.ready.Goals as goal

pub returns-then-s-l : goal.returns-then-s-l
unfolding ready_of
returns-then-s-l c = grind (arith, common_steps)

pub returns-else-s-l : goal.returns-else-s-l
unfolding ready_of
returns-else-s-l c = grind (arith, common_steps)
