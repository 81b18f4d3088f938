-- `grid::generate_components` meets its contract. Assumes nothing.
use borrow.Author.Rules.{rules}
use Rattle.grid.specs.Grids.{rebuild_outcome}
use Rattle.grid.proofs.generate_components.Goals as goal

pub returns-in_err-stated : goal.returns-in_err-stated
unfolding rebuild_outcome
returns-in_err-stated c = search rules

pub returns : goal.returns
unfolding rebuild_outcome
returns c = search rules
