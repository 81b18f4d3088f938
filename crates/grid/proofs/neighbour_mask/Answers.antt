-- `grid::neighbour_mask` meets its contract. Assumes nothing.
use Rattle.std.proofs.Common.{rules}
use Rattle.grid.specs.Questions.{neighbour_mask_at}
use Rattle.grid.proofs.neighbour_mask.Goals as goal

pub returns-in_err-i : goal.returns-in_err-i
unfolding neighbour_mask_at
returns-in_err-i c = search rules

pub returns : goal.returns
unfolding neighbour_mask_at
returns c = search rules
