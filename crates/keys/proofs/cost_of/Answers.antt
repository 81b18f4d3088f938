-- `keys::cost_of` meets its contract. Assumes nothing.
use Rattle.keys.specs.Keys.{cost_of}
use Rattle.keys.proofs.cost_of.Goals as goal

pub returns : goal.returns
unfolding cost_of
returns c = c.saturating_sub.ensures
