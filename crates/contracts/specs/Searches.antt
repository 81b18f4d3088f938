-- The searches, the walk along their waypoints and the printed route: an answer, and what stands in a lent output. What the working room of a search holds
-- afterwards is the one exception: of it nothing is promised. The inner functions that they stand on follow: each asks what its callers tested, and allows one
-- result too. Assumes nothing: these are statements.
use Rattle.offers.specs.Search.{out_of}
use Rattle.search.specs.Loop.{reply_of}
use Rattle.contracts.specs.Allowed.{Free, One, OneWith, OneTold}
use Rattle.waypoints.proofs.get_waypoints_single_goal.Reads as single_goal
use Rattle.waypoints.proofs.get_waypoints_multiple_goals.Reads as multiple_goals
use Rattle.paths.proofs.waypoints_to_path.Reads as waypoints_to_path
use Rattle.router.proofs.searched.Reads as searched
use Rattle.router.proofs.route_text.Reads as route_text
use Rattle.router.proofs.route.Reads as route_inner
use Rattle.finder.proofs.refused.Reads as refused
use Rattle.finder.proofs.single_goal.Reads as single_inner
use Rattle.finder.proofs.multiple_goals.Reads as multiple_inner
use Rattle.search.proofs.search.Reads as search_loop
use Rattle.expansion.proofs.expand_node.Reads as expand_node

pub record Searches : Type 0 where
  -- the waypoints stand behind the six slices of working room, and with several goals behind the list of them
  pub single_goal : Free single_goal.Asked × OneWith single_goal.Post (λ κ e. e.1.1.1.1.1.1.0.now)
  pub multiple_goals : Free multiple_goals.Asked × OneWith multiple_goals.Post (λ κ e. e.1.1.1.1.1.1.1.0.now)
  pub waypoints_to_path : Free waypoints_to_path.Asked × OneWith waypoints_to_path.Post (λ κ e. e.1.0.now)
  pub searched : Free searched.Asked × OneWith searched.Post (λ κ e. e.0.now)
  pub route_text : Free route_text.Asked × OneWith route_text.Post (λ κ e. e.1.0.now)
  -- ---- inner functions

  pub route_inner : OneWith route_inner.Post (λ κ e. e.1.0.now)
  pub refused : Free refused.Asked × One refused.Post
  -- the waypoints stand behind five lent tables and the working room, and with several goals behind three, the list of them and the working room
  pub single_inner : OneWith single_inner.Post (λ κ e. e.1.1.1.1.1.1.1.1.1.1.1.0.now)
  pub multiple_inner : OneWith multiple_inner.Post (λ κ e. e.1.1.1.1.1.1.1.1.1.1.0.now)
  -- the reply of the loop, and what the expansion of a node comes to, each with the state that the room holds: it stands behind four slices
  pub search_loop : OneTold search_loop.Post (λ κ r e. reply_of r e.1.1.1.1.0.now)
  pub expand_node : OneTold expand_node.Post (λ κ r e. out_of r e.1.1.1.1.0.now)
