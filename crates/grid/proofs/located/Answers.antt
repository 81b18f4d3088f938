-- `grid::located` meets its contract. Assumes nothing.
use borrow.Author.Rules.{rules}
use mathlib.Core.Path.{sym, ◌∙◌}
use Rattle.grid.proofs.Tests
use Rattle.grid.proofs.located.Goals as goal

pub returns-in_err-stated-clause-is : goal.returns-in_err-stated-clause-is
returns-in_err-stated-clause-is c = search (rules, Tests.located_state)

pub returns-then-i-g-clause-is : goal.returns-then-i-g-clause-is
returns-then-i-g-clause-is c = Tests.located_in _ _ _ (Tests.done_stated _ (sym c.in_ok-stated.was ∙ c.stated.ensures.is)) c.cell_of-i.ensures c.if-i-g.true

pub returns-else-i-g-clause-is : goal.returns-else-i-g-clause-is
returns-else-i-g-clause-is c = Tests.located_out _ _ _ (Tests.done_stated _ (sym c.in_ok-stated.was ∙ c.stated.ensures.is)) c.cell_of-i.ensures c.if-i-g.false
