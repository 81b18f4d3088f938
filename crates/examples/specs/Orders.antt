-- The order in which a call refuses. Each field is a call: where several refusals apply to its arguments at once, the one that document 01 has first is given,
-- and then the next, as the arguments are put right one after the other. Assumes nothing: these are statements.
use Rattle.std.specs.Prelude.{◌≡◌, Err, true, List, [], ◌∷◌, ℤ, pos, Bool, Result}
use Rattle.std.specs.Float.{nan}
use Rattle.points.specs.declared.Point.{Point}
use Rattle.points.specs.declared.Refusal.{Refusal}
use Rattle.points.specs.declared.Refusal.TheVariants as refusal
use Rattle.headings.specs.Headings.{direction_of}
use Rattle.costs.specs.declared.Settings.{Settings}
use Rattle.costs.specs.Cost.{distance_of}
use Rattle.costs.specs.Scale.{one, scaled_of}
use Rattle.costs.specs.Limits.{new_settings}
use Rattle.offers.specs.Search.{refused}
use Rattle.grid.specs.Grids.{set_outcome}
use Rattle.grid.specs.Questions.{component_at, neighbour_mask_at, forced_mask_at, pruned_mask_at, reachable_from, unreachable_from, neighbours_reachable_from, neighbours_unreachable_from}
use Rattle.paths.specs.Walks.{path_answer}
use Rattle.checks.specs.Checks.{check_of}
use Rattle.floors.specs.Floors.{put_of}
use Rattle.examples.specs.Tables.{pair, broken}
use Rattle.examples.specs.Searches.{spot, limits, single, several}

-- the first cell; a point in range that is no cell; and two points out of range
abbrev pub here : Point
here = spot 0 0

abbrev pub beside : Point
beside = spot 5 0

abbrev pub far : Point
far = spot 1024 0

abbrev pub low : Point
low = spot 0 1024

-- POINT, and as what a grid's question answers
abbrev pub blamed : Point → Refusal
blamed p = refusal.BadPoint p

abbrev pub denied_by : Point → Result Bool Refusal
denied_by p = Err (refusal.BadPoint p)

-- settings that are out of range: no pop is allowed
abbrev pub never : Settings
never = limits 0 1

-- lists: of three numbers; of (0,0) and a point out of range; and of both points out of range
abbrev pub three : List ℤ
three = pos 1024 ∷ pos 0 ∷ pos 0 ∷ []

abbrev pub low_last : List ℤ
low_last = pos 0 ∷ pos 0 ∷ pos 0 ∷ pos 1024 ∷ []

abbrev pub both_bad : List ℤ
both_bad = pos 1024 ∷ pos 0 ∷ pos 0 ∷ pos 1024 ∷ []

pub record Orders : Type 0 where
  -- POINT (first, then second), SAME
  pub direction_to : (direction_of far far ≡ Err (blamed far)) × (direction_of far low ≡ Err (blamed far))
      × (direction_of here low ≡ Err (blamed low)) × (direction_of here here ≡ Err (refusal.Same here))
  -- POINT (first, then second)
  pub distance : (distance_of true far low ≡ Err (blamed far)) × (distance_of true here low ≡ Err (blamed low))
  -- SETTING, POINT (first, then second)
  pub scaled_distance : (scaled_of true nan far low ≡ Err refusal.Setting) × (scaled_of true one far low ≡ Err (blamed far))
      × (scaled_of true one here low ≡ Err (blamed low))
  -- STATE, POINT
  pub set_cell : ((set_outcome broken true beside true).outcome ≡ Err refusal.State) × ((set_outcome pair true beside true).outcome ≡ Err (blamed beside))
  pub get_component : (component_at broken beside ≡ Err refusal.State) × (component_at pair beside ≡ Err (blamed beside))
  pub neighbour_mask : (neighbour_mask_at broken beside ≡ Err refusal.State) × (neighbour_mask_at pair beside ≡ Err (blamed beside))
  pub forced_mask : (forced_mask_at broken beside ≡ Err refusal.State) × (forced_mask_at pair beside ≡ Err (blamed beside))
  pub pruned_mask : (pruned_mask_at broken true beside 0 ≡ Err refusal.State) × (pruned_mask_at pair true beside 0 ≡ Err (blamed beside))
  -- STATE, POINT (start, then goal)
  pub reachable : (reachable_from broken far low ≡ Err refusal.State) × (reachable_from pair far low ≡ denied_by far) × (reachable_from pair here low ≡ denied_by low)
  pub unreachable : (unreachable_from broken far low ≡ Err refusal.State) × (unreachable_from pair far low ≡ denied_by far) × (unreachable_from pair here low ≡ denied_by low)
  pub neighbours_reachable : (neighbours_reachable_from broken true far low ≡ Err refusal.State)
      × (neighbours_reachable_from pair true far low ≡ denied_by far) × (neighbours_reachable_from pair true here low ≡ denied_by low)
  pub neighbours_unreachable : (neighbours_unreachable_from broken true far low ≡ Err refusal.State)
      × (neighbours_unreachable_from pair true far low ≡ denied_by far) × (neighbours_unreachable_from pair true here low ≡ denied_by low)
  -- STATE, SETTING, POINT (start, then goal), NO_ROUTE: each before any pop
  pub single_goal : (single broken never far low ≡ refused refusal.State 0) × (single pair never far low ≡ refused refusal.Setting 0)
      × (single pair new_settings far low ≡ refused (blamed far) 0) × (single pair new_settings here low ≡ refused (blamed low) 0)
      × (single pair new_settings here beside ≡ refused refusal.NoRoute 0)
  -- STATE, SETTING, GOALS, POINT (start, then goals in order)
  pub multiple_goals : (several broken never far three ≡ refused refusal.State 0) × (several pair never far three ≡ refused refusal.Setting 0)
      × (several pair new_settings far three ≡ refused refusal.Goals 0) × (several pair new_settings low both_bad ≡ refused (blamed low) 0)
      × (several pair new_settings here both_bad ≡ refused (blamed far) 0) × (several pair new_settings here low_last ≡ refused (blamed low) 0)
  -- LIST, POINT (the first), ROOM
  pub waypoints_to_path : (path_answer three 0 ≡ Err refusal.List) × (path_answer both_bad 0 ≡ Err (blamed far))
      × (path_answer low_last 0 ≡ Err (blamed low)) × (path_answer (pos 0 ∷ pos 0 ∷ []) 0 ≡ Err refusal.Room)
  -- STATE, LIST, POINT (the first), and only then the cells and the legs: (5,0) is outside
  pub check_route : (check_of broken three ≡ Err refusal.State) × (check_of pair three ≡ Err refusal.List)
      × (check_of pair both_bad ≡ Err (blamed far)) × (check_of pair (pos 0 ∷ pos 0 ∷ pos 5 ∷ pos 0 ∷ low_last) ≡ Err (blamed low))
  -- STATE, POINT (start, then goal), ROOM
  pub write_map : (put_of 0 broken true far low ≡ Err refusal.State) × (put_of 0 pair true far low ≡ Err (blamed far))
      × (put_of 0 pair true here low ≡ Err (blamed low)) × (put_of 0 pair true here here ≡ Err refusal.Room)
