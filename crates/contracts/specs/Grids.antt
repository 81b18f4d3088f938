-- The calls on a grid by value, with those that read and write a map and check a route. A call that changes a grid allows one outcome and one grid.
-- Assumes nothing: these are statements.
use Rattle.contracts.specs.Allowed.{Free, One, OneWith}
use Rattle.grid.proofs.legal.Reads as legal
use Rattle.grid.proofs.new.Reads as new
use Rattle.grid.proofs.set.Reads as set
use Rattle.grid.proofs.generate_components.Reads as generate_components
use Rattle.grid.proofs.update.Reads as update
use Rattle.grid.proofs.get_component.Reads as get_component
use Rattle.grid.proofs.neighbour_mask.Reads as neighbour_mask
use Rattle.grid.proofs.forced_mask.Reads as forced_mask
use Rattle.grid.proofs.pruned_mask.Reads as pruned_mask
use Rattle.grid.proofs.reachable.Reads as reachable
use Rattle.grid.proofs.unreachable.Reads as unreachable
use Rattle.grid.proofs.neighbours_reachable.Reads as neighbours_reachable
use Rattle.grid.proofs.neighbours_unreachable.Reads as neighbours_unreachable
use Rattle.checks.proofs.check_route.Reads as check_route
use Rattle.floors.proofs.read_map.Reads as read_map
use Rattle.floors.proofs.write_map.Reads as write_map

pub record Grids : Type 0 where
  pub legal : Free legal.Asked × One legal.Post
  pub new : Free new.Asked × One new.Post
  -- the grid is the first parameter
  pub set : Free set.Asked × OneWith set.Post (λ κ e. e.0.now)
  pub generate_components : Free generate_components.Asked × OneWith generate_components.Post (λ κ e. e.0.now)
  pub update : Free update.Asked × OneWith update.Post (λ κ e. e.0.now)
  pub get_component : Free get_component.Asked × One get_component.Post
  pub neighbour_mask : Free neighbour_mask.Asked × One neighbour_mask.Post
  pub forced_mask : Free forced_mask.Asked × One forced_mask.Post
  pub pruned_mask : Free pruned_mask.Asked × One pruned_mask.Post
  pub reachable : Free reachable.Asked × One reachable.Post
  pub unreachable : Free unreachable.Asked × One unreachable.Post
  pub neighbours_reachable : Free neighbours_reachable.Asked × One neighbours_reachable.Post
  pub neighbours_unreachable : Free neighbours_unreachable.Asked × One neighbours_unreachable.Post
  pub check_route : Free check_route.Asked × One check_route.Post
  pub read_map : Free read_map.Asked × One read_map.Post
  -- the text stands in the first parameter
  pub write_map : Free write_map.Asked × OneWith write_map.Post (λ κ e. e.0.now)
