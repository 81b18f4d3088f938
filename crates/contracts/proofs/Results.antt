-- A public call has no `requires`, and the contract of each is an equation, or two. Assumes nothing.
use Rattle.paths.specs.Walks.{path_kept}
use Rattle.floors.specs.Floors.{shown_of, put_into}
use Rattle.contracts.specs.Values.{Values}
use Rattle.contracts.specs.Grids.{Grids}
use Rattle.contracts.specs.Searches.{Searches}
use Rattle.contracts.specs.Hosts.{Hosts}
use Rattle.contracts.specs.Results.{OneResult}
use Rattle.contracts.proofs.Laws.{equal, both, change, by_first}

-- the calls on directions, points, distances, settings and masks
values : Values
values =
    record {
      off_x = (λ κ a. tt, λ κ a r r' e e' p q. equal p.0 q.0);
      off_y = (λ κ a. tt, λ κ a r r' e e' p q. equal p.0 q.0);
      right_of = (λ κ a. tt, λ κ a r r' e e' p q. equal p.0 q.0);
      left_of = (λ κ a. tt, λ κ a r r' e e' p q. equal p.0 q.0);
      back_of = (λ κ a. tt, λ κ a r r' e e' p q. equal p.0 q.0);
      in_range = (λ κ a. tt, λ κ a r r' e e'. equal);
      point_legal = (λ κ a. tt, λ κ a r r' e e'. equal);
      rotate_cw = (λ κ a. tt, λ κ a r r' e e'. equal);
      rotate_ccw = (λ κ a. tt, λ κ a r r' e e'. equal);
      opposite = (λ κ a. tt, λ κ a r r' e e'. equal);
      diagonal = (λ κ a. tt, λ κ a r r' e e'. equal);
      dx = (λ κ a. tt, λ κ a r r' e e'. equal);
      dy = (λ κ a. tt, λ κ a r r' e e'. equal);
      split = (λ κ a. tt, λ κ a r r' e e'. equal);
      number = (λ κ a. tt, λ κ a r r' e e'. equal);
      line = (λ κ a. tt, λ κ a r r' e e'. equal);
      point = (λ κ a. tt, λ κ a r r' e e'. equal);
      checked = (λ κ a. tt, λ κ a r r' e e'. equal);
      direction_to = (λ κ a. tt, λ κ a r r' e e'. equal);
      distance = (λ κ a. tt, λ κ a r r' e e'. equal);
      in_bounds = (λ κ a. tt, λ κ a r r' e e'. equal);
      scaled_distance = (λ κ a. tt, λ κ a r r' e e'. equal);
      settings_new = (λ κ a. tt, λ κ a r r' e e'. equal);
      settings_legal = (λ κ a. tt, λ κ a r r' e e'. equal);
      bit = (λ κ a. tt, λ κ a r r' e e'. equal);
      forced_mask = (λ κ a. tt, λ κ a r r' e e'. equal);
      pruned_mask = (λ κ a. tt, λ κ a r r' e e'. equal);
    }

-- the calls on a grid
grids : Grids
grids =
    record {
      legal = (λ κ a. tt, λ κ a r r' e e'. equal);
      new = (λ κ a. tt, λ κ a r r' e e'. equal);
      set = (λ κ a. tt, λ κ a r r' e e'. change);
      generate_components = (λ κ a. tt, λ κ a r r' e e'. change);
      update = (λ κ a. tt, λ κ a r r' e e'. change);
      get_component = (λ κ a. tt, λ κ a r r' e e'. equal);
      neighbour_mask = (λ κ a. tt, λ κ a r r' e e'. equal);
      forced_mask = (λ κ a. tt, λ κ a r r' e e'. equal);
      pruned_mask = (λ κ a. tt, λ κ a r r' e e'. equal);
      reachable = (λ κ a. tt, λ κ a r r' e e'. equal);
      unreachable = (λ κ a. tt, λ κ a r r' e e'. equal);
      neighbours_reachable = (λ κ a. tt, λ κ a r r' e e'. equal);
      neighbours_unreachable = (λ κ a. tt, λ κ a r r' e e'. equal);
      check_route = (λ κ a. tt, λ κ a r r' e e'. equal);
      read_map = (λ κ a. tt, λ κ a r r' e e'. equal);
      write_map = (λ κ a. tt, λ κ a r r' e e'. by_first (λ w. put_into w (shown_of a.1.0 a.1.1.0 a.1.1.1.0 a.1.1.1.1.0) a.0.now));
    }

-- the searches
searches : Searches
searches =
    record {
      single_goal = (λ κ a. tt, λ κ a r r' e e'. both);
      multiple_goals = (λ κ a. tt, λ κ a r r' e e'. both);
      waypoints_to_path = (λ κ a. tt, λ κ a r r' e e'. by_first (λ w. path_kept w a.0.now a.1.0.now));
      searched = (λ κ a. tt, λ κ a r r' e e'. both);
      route_text = (λ κ a. tt, λ κ a r r' e e'. both);
      route_inner = λ κ a r r' e e'. both;
      refused = (λ κ a. tt, λ κ a r r' e e'. equal);
      single_inner = λ κ a r r' e e'. both;
      multiple_inner = λ κ a r r' e e'. both;
      search_loop = λ κ a r r' e e' p q. equal p.1 q.1;
      expand_node = λ κ a r r' e e' p q. equal p.1 q.1;
    }

-- the calls for hosts
hosts : Hosts
hosts =
    record {
      version = (λ κ a. tt, λ κ a r r' e e'. equal);
      forced_mask = (λ κ a. tt, λ κ a r r' e e'. equal);
      pruned_mask = (λ κ a. tt, λ κ a r r' e e'. equal);
      direction = (λ κ a. tt, λ κ a r r' e e'. equal);
      distance = (λ κ a. tt, λ κ a r r' e e'. equal);
      scaled_distance = (λ κ a. tt, λ κ a r r' e e'. equal);
      new = (λ κ a. tt, λ κ a r r' e e'. equal);
      set = (λ κ a. tt, λ κ a r r' e e'. equal);
      rebuild = (λ κ a. tt, λ κ a r r' e e'. equal);
      update = (λ κ a. tt, λ κ a r r' e e'. equal);
      component = (λ κ a. tt, λ κ a r r' e e'. equal);
      blocked_at = (λ κ a. tt, λ κ a r r' e e'. equal);
      neighbours_at = (λ κ a. tt, λ κ a r r' e e'. equal);
      forced_at = (λ κ a. tt, λ κ a r r' e e'. equal);
      pruned_at = (λ κ a. tt, λ κ a r r' e e'. equal);
      reachable = (λ κ a. tt, λ κ a r r' e e'. equal);
      unreachable = (λ κ a. tt, λ κ a r r' e e'. equal);
      neighbours_reachable = (λ κ a. tt, λ κ a r r' e e'. equal);
      neighbours_unreachable = (λ κ a. tt, λ κ a r r' e e'. equal);
      single_goal = (λ κ a. tt, λ κ a r r' e e'. both);
      multiple_goals = (λ κ a. tt, λ κ a r r' e e'. both);
      waypoints_to_path = (λ κ a. tt, λ κ a r r' e e'. both);
      check_route = (λ κ a. tt, λ κ a r r' e e'. equal);
      route_text = (λ κ a. tt, λ κ a r r' e e'. both);
    }

-- LAW: THE RESULTS
pub one_result : OneResult
one_result = record { values = values; grids = grids; searches = searches; hosts = hosts }
