-- `fills::fill_forced` meets its contract. Assumes nothing.
use Rattle.std.proofs.Common.{ℕ, rules}
use lib.ListN.{get_or}
use Rattle.masks.specs.Masks.{forced_of}
use Rattle.fills.proofs.Fills.{filled}
use Rattle.fills.proofs.fill_forced.Goals as goal

pub returns : goal.returns
returns c =
    let g = λ (i : ℕ). forced_of (get_or c.args.neighbours.now i 0) in
    filled g _ _ _ c.requires.n_in_bounds_2 c.fill.ensures.len (λ k h. c.fill.ensures.filled g (λ k r h e. search rules) k 0 h) (λ k h. c.fill.ensures.rest k 0 h)
