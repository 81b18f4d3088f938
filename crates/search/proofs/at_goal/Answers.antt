-- `search::at_goal`: a place is a cell, or the start's. Assumes nothing.
use mathlib.Core.Path.{◌∙◌, ap}
use native.Mathlib.Omega.{arith}
use Rattle.search.specs.Loop.{goal_of}
use Rattle.goals.specs.Goals.{goal_at}
use Rattle.offers.proofs.Laws.{area_is, point_start, point_cell}
use Rattle.search.proofs.at_goal.Goals as goal

pub returns-then-place-p : goal.returns-then-place-p
unfolding goal_of
returns-then-place-p c = c.hits.ensures ∙ ap (goal_at c.args.goals.now c.args.p) (point_cell c.args.p c.args.place (λ e. omega (arith, area_is c.args.p, c.if-place-p.true)))

pub returns : goal.returns
unfolding goal_of
returns c = c.is_goal.ensures ∙ ap (goal_at c.args.goals.now c.args.p) (point_start c.args.p c.args.place (omega (arith, area_is c.args.p, c.if-place-p.false, c.requires.1)))
