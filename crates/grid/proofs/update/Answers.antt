-- `grid::update` meets its contract. Assumes nothing.
use mathlib.Core.Path.{sym, ◌∙◌}
use borrow.Author.Rules.{rules}
use Rattle.grid.specs.Grids.{update_outcome}
use Rattle.grid.proofs.Calls
use Rattle.grid.proofs.update.Goals as goal

pub returns-in_err-stated : goal.returns-in_err-stated
unfolding update_outcome
returns-in_err-stated c = search rules

pub returns-then-g : goal.returns-then-g
returns-then-g c = Calls.update_done _ _ _ (sym c.in_ok-stated.was ∙ c.stated.ensures.is) (c.rebuild.ensures ∙ Calls.update_dirty _ _ c.if-g.true)

pub returns-else-g : goal.returns-else-g
returns-else-g c = Calls.update_done _ _ _ (sym c.in_ok-stated.was ∙ c.stated.ensures.is) (Calls.update_clean _ _ c.if-g.false)
