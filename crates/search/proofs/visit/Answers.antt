-- `search::visit`: a popped cost above the recorded one is skipped, any other node is expanded. Assumes nothing.
use mathlib.Core.Path.{◌∙◌}
use lib.Seq.{get_or-take}
use Rattle.expansion.specs.Start.{yield_of}
use Rattle.expansion.specs.Expand.{tables}
use Rattle.offers.proofs.Loop.{visit_skip, visit_go}
use Rattle.search.proofs.visit.Goals as goal

pub returns-then-work-from-clause-visited : goal.returns-then-work-from-clause-visited
returns-then-work-from-clause-visited c = visit_skip (yield_of (tables c.args.blocked.now c.args.neighbours.now c.args.forced.now c.args.goals.now) c.args.p) _ _ _ (rw (get_or-take c.args.work.now.count c.args.work.now.cost.now c.args.from 0 c.requires.1.1.1.0) c.if-work-from.true)

pub returns-clause-visited : goal.returns-clause-visited
returns-clause-visited c = c.expand_node.ensures.expanded ∙ visit_go (yield_of (tables c.args.blocked.now c.args.neighbours.now c.args.forced.now c.args.goals.now) c.args.p) _ _ _ (rw (get_or-take c.args.work.now.count c.args.work.now.cost.now c.args.from 0 c.requires.1.1.1.0) c.if-work-from.false)
