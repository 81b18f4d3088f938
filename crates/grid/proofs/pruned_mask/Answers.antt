-- `grid::pruned_mask` meets its contract. Assumes nothing.
use Rattle.std.proofs.Common.{rules}
use Rattle.grid.specs.Questions.{pruned_mask_at, neighbour_mask_at}
use Rattle.grid.proofs.pruned_mask.Goals as goal

pub returns-in_err-m : goal.returns-in_err-m
unfolding pruned_mask_at neighbour_mask_at
returns-in_err-m c = search rules

pub returns : goal.returns
unfolding pruned_mask_at neighbour_mask_at
returns c = search rules
