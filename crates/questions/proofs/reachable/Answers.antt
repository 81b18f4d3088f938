-- `questions::reachable` meets its contract. Assumes nothing.
use mathlib.Core.Path.{sym, ap, ◌∙◌}
use native.Mathlib.Omega.{arith}
use borrow.Author.Tests.{eq-eqb}
use Rattle.std.proofs.lemmas.Bool.Decides.{nat_tests}
use Rattle.components.specs.Components.{root_of}
use Rattle.components.proofs.Roots
use Rattle.questions.proofs.Answers
use Rattle.questions.specs.Questions.{reachable_of, rooted_of}
use Rattle.questions.proofs.reachable.Goals as goal

pub returns-then-n-a : goal.returns-then-n-a
unfolding reachable_of rooted_of
returns-then-n-a c = grind (arith, nat_tests)

pub returns-then-parent-a : goal.returns-then-parent-a
returns-then-parent-a c =
    let F = c.requires in
    eq-eqb _ _ c.if-parent-a.true
    ∙ Answers.reach_one _ _ _ _ c.if-n-a.false c.if-n-c.false (sym (Roots.root_next F (omega arith) _ c.if-n-a.false) ∙ ap (root_of _) c.if-parent-a.true ∙ Roots.root_next F (omega arith) _ c.if-n-c.false)

pub returns-else-parent-a : goal.returns-else-parent-a
returns-else-parent-a c = Answers.reach_root _ _ _ _ c.if-n-a.false _ _ c.find.ensures c.rooted.ensures
