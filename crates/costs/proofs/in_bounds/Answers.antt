-- `costs::in_bounds` meets its contract: the two tests are those of the definition. Assumes nothing.
use lib.Ieee.{of_bits}
use Rattle.costs.specs.Scale.{in_bounds}
use Rattle.costs.proofs.in_bounds.Goals as goal

pub returns-then-factor : goal.returns-then-factor
unfolding of_bits in_bounds
returns-then-factor c = rw c.if-factor.true

pub returns-else-factor : goal.returns-else-factor
unfolding of_bits in_bounds
returns-else-factor c = rw c.if-factor.false
