-- The orders of refusals of specs/Orders.antt, computed. Assumes nothing.
use mathlib.Core.Path.{refl}
use lib.Ieee.{le, lt, eq}
use Rattle.costs.specs.Scale.{in_bounds}
use Rattle.states.specs.States.{cell_ok}
use Rattle.components.specs.Components.{root_of, climb}
use Rattle.cells.specs.Cells.{sized_of, cell_of}
use Rattle.questions.specs.Questions.{rooted_of, reachable_of}
use Rattle.goals.specs.Goals.{point_at}
use Rattle.plans.specs.Plans.{ready_of, barred_of}
use Rattle.finder.specs.Find as finder
use Rattle.grid.specs.Grids.{legal_of, located_of, asked_of, set_outcome}
use Rattle.grid.specs.Questions.{component_at, neighbour_mask_at, forced_mask_at, pruned_mask_at, reachable_from, unreachable_from, neighbours_reachable_from, neighbours_unreachable_from}
use Rattle.waypoints.specs.Waypoints as waypoints
use Rattle.pairs.specs.Pairs.{first_bad}
use Rattle.paths.specs.Walks.{path_answer, counted_of, path_of, path_from, walk_of}
use Rattle.checks.specs.Checks.{check_in, check_of}
use Rattle.floors.specs.Floors.{put_of}
use Rattle.examples.specs.Orders.{Orders}

pub orders : Orders
unfolding in_bounds le lt eq cell_ok root_of climb sized_of cell_of rooted_of reachable_of point_at first_bad ready_of barred_of finder.single_of finder.several_of legal_of located_of asked_of set_outcome component_at neighbour_mask_at forced_mask_at pruned_mask_at reachable_from unreachable_from neighbours_reachable_from neighbours_unreachable_from waypoints.single_of waypoints.several_of path_answer counted_of path_of path_from walk_of check_in check_of put_of
orders =
    record {
      direction_to = (refl, refl, refl, refl);
      distance = (refl, refl);
      scaled_distance = (refl, refl, refl);
      set_cell = (refl, refl);
      get_component = (refl, refl);
      neighbour_mask = (refl, refl);
      forced_mask = (refl, refl);
      pruned_mask = (refl, refl);
      reachable = (refl, refl, refl);
      unreachable = (refl, refl, refl);
      neighbours_reachable = (refl, refl, refl);
      neighbours_unreachable = (refl, refl, refl);
      single_goal = (refl, refl, refl, refl, refl);
      multiple_goals = (refl, refl, refl, refl, refl, refl);
      waypoints_to_path = (refl, refl, refl, refl);
      check_route = (refl, refl, refl, refl);
      write_map = (refl, refl, refl, refl);
    }
