-- `grid::unreachable` meets its contract. Assumes nothing.
use Rattle.std.proofs.Common.{rules}
use Rattle.grid.specs.Questions.{unreachable_from, reachable_from}
use Rattle.grid.proofs.unreachable.Goals as goal

pub returns-in_err-yes : goal.returns-in_err-yes
unfolding unreachable_from reachable_from
returns-in_err-yes c = search rules

pub returns : goal.returns
unfolding unreachable_from reachable_from
returns c = search rules
