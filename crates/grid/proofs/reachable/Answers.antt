-- `grid::reachable` meets its contract. Assumes nothing.
use Rattle.std.proofs.Common.{rules}
use Rattle.grid.specs.Questions.{reachable_from}
use Rattle.grid.proofs.reachable.Goals as goal

pub returns-in_err-a : goal.returns-in_err-a
unfolding reachable_from
returns-in_err-a c = search rules

pub returns : goal.returns
unfolding reachable_from
returns c = search rules
