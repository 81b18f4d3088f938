-- `successors::again` meets its contract. Assumes nothing.
use Rattle.std.proofs.Common.{arith}
use Rattle.std.proofs.lemmas.Grind.{common_steps}
use Rattle.successors.specs.Successors.{again_at}
use Rattle.successors.proofs.again.Goals as goal

pub returns-then-e-eq1 : goal.returns-then-e-eq1
unfolding again_at
returns-then-e-eq1 c = grind (arith, common_steps)

pub returns-else-e-eq1 : goal.returns-else-e-eq1
unfolding again_at
returns-else-e-eq1 c = grind (arith, common_steps)
