-- The searches and their steps, computed. Assumes nothing.
use mathlib.Core.Path.{refl}
use mathlib.Core.Bool.{Bool, true}
use Rattle.directions.specs.Offsets.{off_x, off_y}
use Rattle.masks.specs.Masks.{has_bit, pruned_of, forced_of}
use Rattle.components.specs.Components.{root_of, climb, united, linked, halve, halves}
use Rattle.states.specs.States.{cell_ok}
use Rattle.cells.specs.Cells as cells
use Rattle.questions.specs.Questions.{reachable_of, rooted_of, near_along, near_of, neighbours_unreachable_of}
use Rattle.costs.specs.Cost.{dist_of}
use Rattle.costs.specs.Scale.{in_bounds, scale_of}
use Rattle.pairs.specs.Pairs.{first_bad}
use Rattle.goals.specs.Goals.{point_at, least_to, among_to, goal_at, left_of, guess_of}
use Rattle.sifts.specs.Sifts.{up, down}
use Rattle.fringe.specs.Fringe.{push, top, rest}
use Rattle.keys.specs.Keys.{key_of, cost_of}
use Rattle.nodes.specs.Nodes.{added, lowered, note_of}
use Rattle.offers.specs.Search.{area_of, place_point, guess_at, offer_of, each, visit_of, turn_of, run, none, begin, search_of}
use Rattle.stops.specs.Stops as stops
use Rattle.looks.specs.Looks as looks
use Rattle.jumps.specs.Jumps as jumps
use Rattle.expansion.specs.Expand.{follow_with, expand_with, deeper_at, leap_of}
use Rattle.successors.specs.Successors.{again_at, give_of}
use Rattle.expansion.specs.Start.{spread_of, yield_of}
use Rattle.starts.specs.Start.{free_cell, neighbour_of, toward_of}
use Rattle.search.specs.Loop.{goal_of, search_for}
use Rattle.trails.specs.Trail.{route_of, pairs, wrote_of, left_in}
use Rattle.plans.specs.Plans.{ready_of, barred_of}
use Rattle.finder.specs.Find as finder
use Rattle.grid.specs.Grids.{legal_of, new_grid, rebuild_grid}
use Rattle.joins.specs.Joins as joins
use Rattle.refresh.specs.Refresh as refresh
use Rattle.fills.specs.Fills as fills
use Rattle.rebuilds.specs.Rebuilds as rebuilds
use Rattle.tables.specs.Tables as tables
use Rattle.waypoints.specs.Waypoints.{single_of, several_of}
use lib.Ieee.{mul, le, of_int, to_unsigned}
use Rattle.examples.specs.Searches.{Searches, Steps}

-- what a search computes with
unfoldable pub computing : Bool
unfolding off_x off_y has_bit pruned_of cell_ok root_of climb cells.sized_of cells.cell_of reachable_of rooted_of near_along near_of neighbours_unreachable_of dist_of in_bounds scale_of point_at first_bad least_to among_to goal_at left_of guess_of up down push top rest key_of cost_of added lowered note_of area_of place_point guess_at offer_of each visit_of turn_of run none begin search_of stops.byte_at stops.within stops.free_at stops.stops_at looks.reach_of looks.run looks.sees_on looks.sees_either looks.turns_at jumps.halts_at jumps.jump_of again_at give_of follow_with expand_with deeper_at leap_of free_cell neighbour_of toward_of spread_of yield_of goal_of search_for route_of pairs wrote_of left_in ready_of barred_of finder.answer_of finder.out_after finder.started_of finder.single_of finder.several_of legal_of new_grid rebuild_grid tables.new_of tables.rebuild_of tables.edit_of rebuilds.columns_to rebuilds.column_to rebuilds.cell_joined joins.joined_to joins.join_cell joins.around joins.ahead united linked halve halves cells.cell_at refresh.with_bit refresh.touched refresh.fixed refresh.fixed_all refresh.masks_after fills.free_bit fills.mask_of forced_of single_of several_of mul le of_int to_unsigned
computing = true

pub searches : Searches
unfolding computing
searches =
    record {
      found = refl;
      written = refl;
      written_back = refl;
      room_short = refl;
      room_kept = refl;
      pops_enough = refl;
      pops_spent = refl;
      fringe_spent = refl;
      exhausted = refl;
      no_route = refl;
      rebuilt = refl;
      start_is_goal = refl;
      approximate = refl;
      near_enough = refl;
      unasked = refl;
      from_outside = refl;
      outside_first = refl;
    }

pub steps : Steps
unfolding computing
steps =
    record {
      key_most = refl;
      estimate_first = refl;
      cost_next = refl;
      key_cost = refl;
      key_none = refl;
      larger_rises = refl;
      tie_stays = refl;
      tie_second = refl;
      larger_child = (refl, refl);
      copied = refl;
      equal_left = refl;
      number_kept = refl;
      estimate_pushed = refl;
      entries_most = refl;
      start_place = (refl, refl);
      start_alone = refl;
      no_pop = refl;
      room_tested = (refl, refl, refl);
      goal_kinds = (refl, refl);
      planned = refl;
    }
