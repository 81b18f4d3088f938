-- The calls for hosts: an answer, an answer with the lent tables, or an answer with a lent output. Assumes nothing: these are statements.
use Rattle.boundary.specs.Lent.{left, left_links}
use Rattle.contracts.specs.Allowed.{Free, One, OneWith, OneTold}
use Rattle.boundary.proofs.barnsling_version.Reads as version
use Rattle.boundary.proofs.barnsling_forced_mask.Reads as forced_mask
use Rattle.boundary.proofs.barnsling_pruned_mask.Reads as pruned_mask
use Rattle.boundary.proofs.barnsling_direction.Reads as direction
use Rattle.boundary.proofs.barnsling_distance.Reads as distance
use Rattle.boundary.proofs.barnsling_scaled_distance.Reads as scaled_distance
use Rattle.boundary.proofs.barnsling_new.Reads as new
use Rattle.boundary.proofs.barnsling_set.Reads as set
use Rattle.boundary.proofs.barnsling_rebuild.Reads as rebuild
use Rattle.boundary.proofs.barnsling_update.Reads as update
use Rattle.boundary.proofs.barnsling_component.Reads as component
use Rattle.boundary.proofs.barnsling_blocked_at.Reads as blocked_at
use Rattle.boundary.proofs.barnsling_neighbours_at.Reads as neighbours_at
use Rattle.boundary.proofs.barnsling_forced_at.Reads as forced_at
use Rattle.boundary.proofs.barnsling_pruned_at.Reads as pruned_at
use Rattle.boundary.proofs.barnsling_reachable.Reads as reachable
use Rattle.boundary.proofs.barnsling_unreachable.Reads as unreachable
use Rattle.boundary.proofs.barnsling_neighbours_reachable.Reads as neighbours_reachable
use Rattle.boundary.proofs.barnsling_neighbours_unreachable.Reads as neighbours_unreachable
use Rattle.boundary.proofs.barnsling_single_goal.Reads as single_goal
use Rattle.boundary.proofs.barnsling_multiple_goals.Reads as multiple_goals
use Rattle.boundary.proofs.walks.barnsling_waypoints_to_path.Reads as waypoints_to_path
use Rattle.boundary.proofs.walks.barnsling_check_route.Reads as check_route
use Rattle.boundary.proofs.texts.barnsling_route_text.Reads as route_text

pub record Hosts : Type 0 where
  pub version : Free version.Asked × One version.Post
  pub forced_mask : Free forced_mask.Asked × One forced_mask.Post
  pub pruned_mask : Free pruned_mask.Asked × One pruned_mask.Post
  pub direction : Free direction.Asked × One direction.Post
  pub distance : Free distance.Asked × One distance.Post
  pub scaled_distance : Free scaled_distance.Asked × One scaled_distance.Post
  -- the answer with the five tables, and with parents and ranks
  pub new : Free new.Asked × OneTold new.Post (λ κ r e. left r e.0.now e.1.0.now e.1.1.0.now e.1.1.1.0.now e.1.1.1.1.0.now)
  pub set : Free set.Asked × OneTold set.Post (λ κ r e. left r e.0.now e.1.0.now e.1.1.0.now e.1.1.1.0.now e.1.1.1.1.0.now)
  pub rebuild : Free rebuild.Asked × OneTold rebuild.Post (λ κ r e. left_links r e.1.0.now e.1.1.0.now)
  pub update : Free update.Asked × OneTold update.Post (λ κ r e. left_links r e.1.0.now e.1.1.0.now)
  pub component : Free component.Asked × One component.Post
  pub blocked_at : Free blocked_at.Asked × One blocked_at.Post
  pub neighbours_at : Free neighbours_at.Asked × One neighbours_at.Post
  pub forced_at : Free forced_at.Asked × One forced_at.Post
  pub pruned_at : Free pruned_at.Asked × One pruned_at.Post
  pub reachable : Free reachable.Asked × One reachable.Post
  pub unreachable : Free unreachable.Asked × One unreachable.Post
  pub neighbours_reachable : Free neighbours_reachable.Asked × One neighbours_reachable.Post
  pub neighbours_unreachable : Free neighbours_unreachable.Asked × One neighbours_unreachable.Post
  -- the waypoints stand behind five tables and the six slices of working room, and with several goals behind the list of them too
  pub single_goal : Free single_goal.Asked × OneWith single_goal.Post (λ κ e. e.1.1.1.1.1.1.1.1.1.1.1.0.now)
  pub multiple_goals : Free multiple_goals.Asked × OneWith multiple_goals.Post (λ κ e. e.1.1.1.1.1.1.1.1.1.1.1.1.0.now)
  pub waypoints_to_path : Free waypoints_to_path.Asked × OneWith waypoints_to_path.Post (λ κ e. e.1.0.now)
  pub check_route : Free check_route.Asked × One check_route.Post
  pub route_text : Free route_text.Asked × OneWith route_text.Post (λ κ e. e.1.0.now)
