-- `states::cell_ok` meets its contract. Assumes nothing.
use native.Mathlib.Omega.{arith}
use Rattle.std.proofs.lemmas.Bool.Decides.{nat_tests}
use Rattle.states.specs.States.{cell_ok}
use Rattle.states.proofs.cell_ok.Goals as goal

pub returns-then-up-i : goal.returns-then-up-i
unfolding cell_ok
returns-then-up-i c = grind (arith, nat_tests)

pub returns-then-up-n : goal.returns-then-up-n
unfolding cell_ok
returns-then-up-n c = grind (arith, nat_tests)

pub returns-else-up-n : goal.returns-else-up-n
unfolding cell_ok
returns-else-up-n c = grind (arith, nat_tests)

pub returns-else-low-le200 : goal.returns-else-low-le200
unfolding cell_ok
returns-else-low-le200 c = grind (arith, nat_tests)
