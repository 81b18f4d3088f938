-- `grid::asked` meets its contract. Assumes nothing.
use borrow.Author.Rules.{rules}
use mathlib.Core.Path.{sym, ◌∙◌}
use Rattle.grid.proofs.Tests
use Rattle.grid.proofs.asked.Goals as goal

pub returns-in_err-stated-clause-is : goal.returns-in_err-stated-clause-is
returns-in_err-stated-clause-is c = let e = Tests.asked_state c.args.g c.args.start c.args.goal (sym c.in_err-stated.was ∙ c.stated.ensures.is) in search rules

pub returns-then-not-legal-clause-is : goal.returns-then-not-legal-clause-is
returns-then-not-legal-clause-is c = Tests.asked_start _ _ _ (Tests.done_stated _ (sym c.in_ok-stated.was ∙ c.stated.ensures.is)) (sym c.legal.ensures ∙ c.if-not-legal.true)

pub returns-then-not-legal-2-clause-is : goal.returns-then-not-legal-2-clause-is
returns-then-not-legal-2-clause-is c = Tests.asked_goal _ _ _ (Tests.done_stated _ (sym c.in_ok-stated.was ∙ c.stated.ensures.is)) (sym c.legal.ensures ∙ c.if-not-legal.false) (sym c.legal-2.ensures ∙ c.if-not-legal-2.true)

pub returns-clause-is : goal.returns-clause-is
returns-clause-is c = Tests.asked_done _ _ _ (Tests.done_stated _ (sym c.in_ok-stated.was ∙ c.stated.ensures.is)) (sym c.legal.ensures ∙ c.if-not-legal.false) (sym c.legal-2.ensures ∙ c.if-not-legal-2.false) c.cell_of-a.ensures c.cell_of-c.ensures
