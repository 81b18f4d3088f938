-- `nodes::note` meets its contract: in each of its three cases the slices hold what recording makes of the nodes. Assumes nothing.
use Rattle.nodes.proofs.Views.{view_new, view_lower, view_old}
use Rattle.nodes.proofs.note.Goals as goal

pub returns-then-have-eq0 : goal.returns-then-have-eq0
returns-then-have-eq0 c = view_new _ _ _ _ _ _ _ _ c.requires c.if-have-eq0.true

pub returns-then-k-cost : goal.returns-then-k-cost
returns-then-k-cost c = view_lower _ _ _ _ _ _ _ _ c.requires c.if-have-eq0.false c.if-k-cost.true

pub returns : goal.returns
returns c = view_old _ _ _ _ _ _ _ _ c.requires c.if-have-eq0.false c.if-k-cost.false
