-- `grid::neighbours_unreachable` meets its contract. Assumes nothing.
use Rattle.std.proofs.Common.{rules}
use Rattle.grid.specs.Questions.{neighbours_unreachable_from}
use Rattle.grid.proofs.neighbours_unreachable.Goals as goal

pub returns-in_err-a : goal.returns-in_err-a
unfolding neighbours_unreachable_from
returns-in_err-a c = search rules

pub returns : goal.returns
unfolding neighbours_unreachable_from
returns c = search rules
