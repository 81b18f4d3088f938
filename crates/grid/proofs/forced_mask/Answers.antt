-- `grid::forced_mask` meets its contract. Assumes nothing.
use Rattle.std.proofs.Common.{rules}
use Rattle.grid.specs.Questions.{forced_mask_at}
use Rattle.grid.proofs.forced_mask.Goals as goal

pub returns-in_err-i : goal.returns-in_err-i
unfolding forced_mask_at
returns-in_err-i c = search rules

pub returns : goal.returns
unfolding forced_mask_at
returns c = search rules
