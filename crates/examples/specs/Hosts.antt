-- What a host is told: the order in which the calls on lent tables refuse, as specs/Orders.antt has it for the library's, and answers as numbers.
-- Assumes nothing: these are statements.
use Rattle.std.specs.Prelude.{◌≡◌, true, false, Ok, Err, List, [], ◌∷◌, ℕ, ◌*◌, pos, Some, None}
use Rattle.points.specs.Refusals.{told_of}
use Rattle.points.specs.declared.Point.{Point}
use Rattle.points.specs.declared.Refusal.TheVariants as refusal
use Rattle.costs.specs.Scale.{one}
use Rattle.offers.specs.Search.{refused}
use Rattle.tables.specs.Tables.{Tables}
use Rattle.finder.specs.Find.{Ground, found_of, lent_ground}
use Rattle.packing.specs.Packing.{flag_of, point_of, refused_as, mark_of, settings_of}
use Rattle.checks.specs.Checks.{judged}
use Rattle.replies.specs.Replies.{route_of, told_reply, written_reply, check_reply}
use Rattle.boundary.specs.Lent as lent
use Rattle.boundary.specs.Searches.{single_lent, several_lent}
use Rattle.boundary.specs.Walks.{check_lent}
use Rattle.examples.specs.Searches.{told, most}
use Rattle.examples.specs.Orders.{here, beside, far, low, blamed, never, three, both_bad}

-- tables of 2 by 1 cells that a host lends: zeros; parents that are no cells; and each cell its own parent
abbrev pub zeros : List ℕ
zeros = 0 ∷ 0 ∷ []

abbrev pub wild : List ℕ
wild = 7 ∷ 7 ∷ []

abbrev pub own : List ℕ
own = 0 ∷ 1 ∷ []

-- five of them: none, with wild parents, and a grid
abbrev pub nothing : Tables
nothing = lent.tables false [] [] [] [] []

abbrev pub tangled : Tables
tangled = lent.tables false zeros zeros zeros wild zeros

abbrev pub lawful : Tables
lawful = lent.tables false zeros zeros zeros own zeros

abbrev pub floor : Ground
floor = lent_ground 2 1 zeros zeros zeros

-- a refusal's number as an answer: 256 more for the first of two points, 512 more for the second
abbrev pub numbered : ℕ → ℕ
numbered n = 4294967296 * n

-- the calls on lent tables: a refusal leaves them as they were
pub record Hosts : Type 0 where
  -- SIZE, then STATE of tables that are too short
  pub new_tables : (lent.new_lent 65 1 nothing ≡ lent.left_in (numbered 1) nothing) × (lent.new_lent 2 1 nothing ≡ lent.left_in (numbered 2) nothing)
  -- STATE, POINT
  pub set_tables : (lent.set_lent 2 1 true tangled beside true ≡ lent.left_in (numbered 2) tangled) × (lent.set_lent 2 1 true lawful beside true ≡ lent.left_in (numbered 14) lawful)
  pub component : (lent.component_lent 2 1 wild zeros beside ≡ numbered 2) × (lent.component_lent 2 1 own zeros beside ≡ numbered 14)
  -- the same, and then the byte read as yes or no: 2 is blocked, 0 is free
  pub blocked_at : (lent.blocked_lent 2 1 (2 ∷ 0 ∷ []) wild zeros beside ≡ numbered 2) × (lent.blocked_lent 2 1 (2 ∷ 0 ∷ []) own zeros beside ≡ numbered 14)
      × (lent.blocked_lent 2 1 (2 ∷ 0 ∷ []) own zeros here ≡ 1) × (lent.blocked_lent 2 1 (0 ∷ 2 ∷ []) own zeros here ≡ 0)
  -- STATE, POINT
  pub mask_at : (lent.mask_lent 2 1 zeros wild zeros beside ≡ numbered 2) × (lent.mask_lent 2 1 zeros own zeros beside ≡ numbered 14)
  pub pruned_at : (lent.pruned_lent 2 1 true zeros wild zeros beside 0 ≡ numbered 2) × (lent.pruned_lent 2 1 true zeros own zeros beside 0 ≡ numbered 14)
  -- STATE, POINT (start, then goal)
  pub reachable : (lent.reachable_lent 2 1 wild zeros far low ≡ numbered 2) × (lent.reachable_lent 2 1 own zeros far low ≡ numbered 270) × (lent.reachable_lent 2 1 own zeros here low ≡ numbered 526)
  pub unreachable : (lent.unreachable_lent 2 1 wild zeros far low ≡ numbered 2) × (lent.unreachable_lent 2 1 own zeros far low ≡ numbered 270) × (lent.unreachable_lent 2 1 own zeros here low ≡ numbered 526)
  pub neighbours_reachable : (lent.near_lent 2 1 true wild zeros far low ≡ numbered 2) × (lent.near_lent 2 1 true own zeros far low ≡ numbered 270) × (lent.near_lent 2 1 true own zeros here low ≡ numbered 526)
  pub neighbours_unreachable : (lent.far_lent 2 1 true wild zeros far low ≡ numbered 2) × (lent.far_lent 2 1 true own zeros far low ≡ numbered 270) × (lent.far_lent 2 1 true own zeros here low ≡ numbered 526)
  -- STATE, then what the library's searches refuse
  pub single_goal : (single_lent floor wild zeros never most false far low ≡ refused refusal.State 0) × (single_lent floor own zeros never most false far low ≡ refused refusal.Setting 0)
  pub multiple_goals : (several_lent floor wild zeros never most far three ≡ refused refusal.State 0) × (several_lent floor own zeros never most far three ≡ refused refusal.Setting 0)
  -- STATE, LIST, POINT
  pub check_route : (check_lent 2 1 zeros wild zeros three ≡ Err refusal.State) × (check_lent 2 1 zeros own zeros three ≡ Err refusal.List)
      × (check_lent 2 1 zeros own zeros both_bad ≡ Err (blamed far))

-- (5,7)
abbrev pub there : Point
there = record { x = pos 5; y = pos 7 }

-- answers as numbers, and what is made of a host's numbers
pub record Replies : Type 0 where
  -- a flag of 2 read as no, or 0 as yes
  pub flags : (flag_of 2 ≡ true) × (flag_of 0 ≡ false)
  -- the coordinates exchanged
  pub point : point_of (pos 5) (pos 7) ≡ there
  -- the two flags or two of the limits exchanged
  pub settings : settings_of one true false 1 2 3 ≡ record { factor = one; diagonal = true; improved = false; depth = 1; pops = 2; fringe = 3 }
  -- yes and no exchanged, or another number than 1
  pub marks : (mark_of true ≡ 1) × (mark_of false ≡ 0)
  -- a refusal of which its number alone is answered, so that it looks like an answer
  pub apart : (refused_as refusal.List ≡ numbered 13) × (refused_as (refusal.BadPoint there) ≡ numbered 14)
  -- count, cost and pops of a route exchanged, or a point with it
  pub found : route_of (told 3 (Ok (found_of 2 70))) ≡ record { refusal = 0; pops = 3; waypoints = 2; cost = 70; x = pos 0; y = pos 0 }
  -- the pops before a refusal lost, or the point that it concerns
  pub not_found : (route_of (told 1 (Err refusal.Exhausted)) ≡ record { refusal = 6; pops = 1; waypoints = 0; cost = 0; x = pos 0; y = pos 0 })
      × (route_of (told 0 (Err (refusal.BadPoint there))) ≡ record { refusal = 14; pops = 0; waypoints = 0; cost = 0; x = pos 5; y = pos 7 })
  -- the point of a refusal lost, or its number told as a value
  pub concerned : told_reply (told_of (refusal.BadPoint there)) ≡ record { refusal = 14; value = 0; x = pos 5; y = pos 7 }
  -- a refusal of a path told as a count, or as another
  pub unwritten : written_reply (Err refusal.Room) ≡ record { refusal = 10; value = 0; x = pos 0; y = pos 0 }
  -- clear and not clear exchanged, the leg lost or told as clear, or a refusal told as not clear
  pub checked : (check_reply (Ok (judged true None)) ≡ record { refusal = 0; clear = 1; bent = 0; x = pos 0; y = pos 0 })
      × (check_reply (Ok (judged false (Some 2))) ≡ record { refusal = 0; clear = 0; bent = 2; x = pos 0; y = pos 0 })
      × (check_reply (Err refusal.List) ≡ record { refusal = 13; clear = 0; bent = 0; x = pos 0; y = pos 0 })
      × (check_reply (Err (refusal.BadPoint there)) ≡ record { refusal = 14; clear = 0; bent = 0; x = pos 5; y = pos 7 })
