-- `waypoints::get_waypoints_single_goal`: STATE, then the search over the grid's tables. Assumes nothing.
-- the tables of a grid by value have as many places as the largest grid has cells
use mathlib.Core.Path.{◌≡◌, sym, ◌∙◌}
use native.Mathlib.Nat.{le_of_eq}
use lib.ListN.{length}
use Rattle.waypoints.proofs.Laws.{covered, same, single_state, single_legal}
use Rattle.waypoints.specs.Waypoints.{single_plan}
use Rattle.finder.proofs.Laws.{stopped}
use Rattle.finder.specs.Find.{lengths_of}
use Rattle.grid.proofs.Tests.{of_legal_lem, forest}
use Rattle.waypoints.proofs.get_waypoints_single_goal.Goals as goal

pub returns-then-not-legal : goal.returns-then-not-legal
returns-then-not-legal c = stopped _ _ _ _ (single_plan c.args.g c.args.s c.args.approximate c.args.start c.args.goal) _ c.refused.ensures (single_state c.args.g c.args.s (lengths_of c.args.number.now c.args.place.now c.args.parent.now c.args.cost.now c.args.keys.now c.args.idx.now) c.args.approximate c.args.start c.args.goal (sym c.legal.ensures ∙ c.if-not-legal.true))

pub single_goal-requires : goal.single_goal-requires
single_goal-requires c = ((of_legal_lem c.args.g (sym c.legal.ensures ∙ c.if-not-legal.false)).sides, (covered c.args.g (sym c.legal.ensures ∙ c.if-not-legal.false) (le_of_eq ((let long_blocked' : 4096 ≡ length c.args.g.blocked = sym c.well_formed.1.1.1.1.1.1.1.0.1.1.1.1.1.0.1.0.1 in long_blocked'))) (le_of_eq ((let long_neighbours' : 4096 ≡ length c.args.g.neighbours = sym c.well_formed.1.1.1.1.1.1.1.0.1.1.1.1.1.1.0.1.0.1 in long_neighbours'))) (le_of_eq ((let long_forced' : 4096 ≡ length c.args.g.forced = sym c.well_formed.1.1.1.1.1.1.1.0.1.1.1.1.1.1.1.0.1.0.1 in long_forced'))), forest c.args.g (sym c.legal.ensures ∙ c.if-not-legal.false) (le_of_eq ((let long_parent' : 4096 ≡ length c.args.g.parent = sym c.well_formed.1.1.1.1.1.1.1.0.1.1.1.1.1.1.1.1.0.1.0.1 in long_parent'))) (le_of_eq ((let long_rank' : 4096 ≡ length c.args.g.rank = sym c.well_formed.1.1.1.1.1.1.1.0.1.1.1.1.1.1.1.1.1.0.1.0.1 in long_rank')))))

pub returns : goal.returns
returns c = same _ _ _ _ (single_plan c.args.g c.args.s c.args.approximate c.args.start c.args.goal) _ _ c.single_goal.ensures (single_legal c.args.g c.args.s (lengths_of c.args.number.now c.args.place.now c.args.parent.now c.args.cost.now c.args.keys.now c.args.idx.now) c.args.approximate c.args.start c.args.goal (sym c.legal.ensures ∙ c.if-not-legal.false))
