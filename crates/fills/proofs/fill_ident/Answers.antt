-- `fills::fill_ident` meets its contract. Assumes nothing.
use Rattle.std.proofs.Common.{rules}
use Rattle.fills.proofs.Fills.{filled}
use Rattle.fills.proofs.fill_ident.Goals as goal

pub returns : goal.returns
returns c = filled (λ i. i) _ _ _ c.requires.n_in_bounds c.fill.ensures.len (λ k h. c.fill.ensures.filled (λ i. i) (λ k r h e. search rules) k 0 h) (λ k h. c.fill.ensures.rest k 0 h)
