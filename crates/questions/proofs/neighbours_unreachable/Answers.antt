-- `questions::neighbours_unreachable` meets its contract. Assumes nothing.
use native.Mathlib.Omega.{arith}
use Rattle.std.proofs.lemmas.Bool.Decides.{nat_tests}
use Rattle.questions.specs.Questions.{neighbours_unreachable_of}
use Rattle.questions.proofs.neighbours_unreachable.Goals as goal

pub returns-then-n-c : goal.returns-then-n-c
unfolding neighbours_unreachable_of
returns-then-n-c c = grind (arith, nat_tests)

pub returns-else-n-c : goal.returns-else-n-c
unfolding neighbours_unreachable_of
returns-else-n-c c = grind (arith, nat_tests)
