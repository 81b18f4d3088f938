-- `waypoints::get_waypoints_multiple_goals`: STATE, then the search over the grid's tables. Assumes nothing.
-- the tables of a grid by value have as many places as the largest grid has cells
use mathlib.Core.Path.{◌≡◌, sym, ◌∙◌}
use native.Mathlib.Nat.{le_of_eq}
use lib.ListN.{length}
use Rattle.waypoints.proofs.Laws.{covered, same, several_state, several_legal}
use Rattle.waypoints.specs.Waypoints.{several_plan}
use Rattle.finder.proofs.Laws.{stopped}
use Rattle.finder.specs.Find.{lengths_of}
use Rattle.grid.proofs.Tests.{of_legal_lem}
use Rattle.waypoints.proofs.get_waypoints_multiple_goals.Goals as goal

pub returns-then-not-legal : goal.returns-then-not-legal
returns-then-not-legal c = stopped _ _ _ _ (several_plan c.args.g c.args.s c.args.start c.args.goals.now) _ c.refused.ensures (several_state c.args.g c.args.s (lengths_of c.args.number.now c.args.place.now c.args.parent.now c.args.cost.now c.args.keys.now c.args.idx.now) c.args.start c.args.goals.now (sym c.legal.ensures ∙ c.if-not-legal.true))

pub multiple_goals-requires : goal.multiple_goals-requires
multiple_goals-requires c = ((of_legal_lem c.args.g (sym c.legal.ensures ∙ c.if-not-legal.false)).sides, covered c.args.g (sym c.legal.ensures ∙ c.if-not-legal.false) (le_of_eq ((let long_blocked' : 4096 ≡ length c.args.g.blocked = sym c.well_formed.1.1.1.1.1.1.1.1.0.1.1.1.1.1.0.1.0.1 in long_blocked'))) (le_of_eq ((let long_neighbours' : 4096 ≡ length c.args.g.neighbours = sym c.well_formed.1.1.1.1.1.1.1.1.0.1.1.1.1.1.1.0.1.0.1 in long_neighbours'))) (le_of_eq ((let long_forced' : 4096 ≡ length c.args.g.forced = sym c.well_formed.1.1.1.1.1.1.1.1.0.1.1.1.1.1.1.1.0.1.0.1 in long_forced'))))

pub returns : goal.returns
returns c = same _ _ _ _ (several_plan c.args.g c.args.s c.args.start c.args.goals.now) _ _ c.multiple_goals.ensures (several_legal c.args.g c.args.s (lengths_of c.args.number.now c.args.place.now c.args.parent.now c.args.cost.now c.args.keys.now c.args.idx.now) c.args.start c.args.goals.now (sym c.legal.ensures ∙ c.if-not-legal.false))
