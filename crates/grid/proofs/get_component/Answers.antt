-- `grid::get_component` meets its contract. Assumes nothing.
use Rattle.std.proofs.Common.{rules}
use Rattle.grid.specs.Questions.{component_at}
use Rattle.grid.proofs.get_component.Goals as goal

pub returns-in_err-i : goal.returns-in_err-i
unfolding component_at
returns-in_err-i c = search rules

pub returns : goal.returns
unfolding component_at
returns c = search rules
