-- `expansion::expand_node` meets its contract: by the node's parent. Assumes nothing.
use mathlib.Core.Path.{sym, ◌∙◌}
use Rattle.successors.proofs.Laws.{parent_none}
use Rattle.expansion.specs.Expand.{tables}
use Rattle.expansion.proofs.Starts.{yield_start, yield_up}
use Rattle.expansion.proofs.expand_node.Goals as goal

pub returns-in_default-clause-expanded : goal.returns-in_default-clause-expanded
returns-in_default-clause-expanded c = c.spread.ensures.spread ∙ yield_start (tables c.args.blocked.now c.args.neighbours.now c.args.forced.now c.args.goals.now) _ _ _ _ (parent_none _ _ (sym c.in_default.is ∙ c.parent_of.ensures))

pub returns-clause-expanded : goal.returns-clause-expanded
returns-clause-expanded c =
    c.leap.ensures.expanded
    ∙ yield_up (tables c.args.blocked.now c.args.neighbours.now c.args.forced.now c.args.goals.now) c.args.p c.args.from _ c.args.k c.args.work.now c.requires.1.1.1.0 (sym c.in-Some.is ∙ c.parent_of.ensures)
