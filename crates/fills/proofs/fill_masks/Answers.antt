-- `fills::fill_masks` meets its contract. Assumes nothing.
use Rattle.std.proofs.Common.{rules}
use Rattle.fills.specs.Fills.{mask_at}
use Rattle.fills.proofs.Fills.{filled}
use Rattle.fills.proofs.fill_masks.Goals as goal

pub returns : goal.returns
returns c =
    let g = mask_at c.args.size.w c.args.size.h c.args.blocked.now in
    filled g _ _ _ c.requires.n_in_bounds_2 c.fill.ensures.len (λ k h. c.fill.ensures.filled g (λ k r h e. search rules) k 0 (rw c.area.ensures h)) (λ k h. c.fill.ensures.rest k 0 (rw c.area.ensures h))
