-- Whole searches, and the steps that they are made of, at small inputs: each answer is the definition's, and each line says what it rules out.
-- Assumes nothing.
use Rattle.std.specs.Prelude.{◌≡◌, true, false, Result, Ok, Err, List, [], ◌∷◌, ℕ, ltb, ℤ, pos, negsuc, replicate, get_or, set}
use Rattle.points.specs.declared.Point.{Point}
use Rattle.points.specs.declared.Refusal.{Refusal}
use Rattle.points.specs.declared.Refusal.TheVariants as refusal
use Rattle.costs.specs.declared.Settings.{Settings}
use Rattle.costs.specs.Scale.{one}
use Rattle.costs.specs.Limits.{new_settings}
use Rattle.goals.specs.declared.Goal.TheVariants.{Exact, Near}
use Rattle.goals.specs.declared.Plan.{Plan}
use Rattle.sifts.specs.Sifts.{entry, larger_of}
use Rattle.fringe.specs.Fringe.{push, rest}
use Rattle.keys.specs.Keys.{key_of, cost_of}
use Rattle.nodes.specs.Nodes.{Nodes, note, note_of}
use Rattle.offers.specs.Search.{Reply, state, ok, no, place_point, offer_of, begin}
use Rattle.plans.specs.declared.Lengths.{Lengths}
use Rattle.plans.specs.Plans.{ready_of, kind_of, plan_of}
use Rattle.finder.specs.declared.Answer.{Answer}
use Rattle.finder.specs.declared.Found.{Found}
use Rattle.finder.specs.Find.{found_of, early, answer_of, out_after}
use Rattle.grid.specs.declared.Grid.{Grid}
use Rattle.grid.specs.Grids.{new_grid, rebuild_grid, edit_grid}
use Rattle.waypoints.specs.Waypoints.{single_of, several_of, single_plan, several_plan}

-- ---- what they are about

abbrev pub spot : ℕ → ℕ → Point
spot x y = record { x = pos x; y = pos y }

-- one step before the first cell
abbrev pub outside : Point
outside = record { x = negsuc 0; y = pos 0 }

-- a new grid of 2 by 1, the same rebuilt, and with its first cell blocked
abbrev pub new2 : Grid
new2 = new_grid 2 1

abbrev pub free2 : Grid
free2 = rebuild_grid new2 true

abbrev pub shut2 : Grid
shut2 = edit_grid new2 true (spot 0 0) true

-- 3 by 1, free and rebuilt
abbrev pub free3 : Grid
free3 = rebuild_grid (new_grid 3 1) true

-- `.#.` rebuilt, and its middle blocked again
abbrev pub gap3 : Grid
gap3 = edit_grid (rebuild_grid (edit_grid (new_grid 3 1) true (spot 1 0) true) true) true (spot 1 0) true

-- a new grid's settings with other limits for pops and fringe
abbrev pub limits : ℕ → ℕ → Settings
limits pops fringe = record { factor = one; diagonal = true; improved = true; depth = 64; pops = pops; fringe = fringe }

-- room for the most that a search may want
abbrev pub most : Lengths
most = record { number = 4097; place = 4097; parent = 4097; cost = 4097; keys = 8192; idx = 8192 }

-- the exact search, and the search for several goals
abbrev pub single : Grid → Settings → Point → Point → Reply
single g s start goal = single_of g s most false start goal

abbrev pub several : Grid → Settings → Point → List ℤ → Reply
several g s start goals = several_of g s most start goals

abbrev pub told : ℕ → Result Found Refusal → Answer
told pops o = record { pops = pops; outcome = o }

-- an output that holds 9 everywhere
abbrev pub nines : ℕ → List ℤ
nines n = replicate n (pos 9)

-- the waypoints of an exact search, in an output that held n numbers
abbrev pub route : Grid → Point → Point → ℕ → List ℤ
route g start goal n = out_after (nines n) (single_plan g new_settings false start goal) (single g new_settings start goal)

-- ---- whole searches

pub record Searches : Type 0 where
  -- found, with three pops: no search that always refuses, no other count of pops
  pub found : answer_of 8 (single free3 new_settings (spot 0 0) (spot 2 0)) ≡ told 3 (Ok (found_of 3 140))
  -- its waypoints from the start, the rest kept: not all of them at the start
  pub written : route free3 (spot 0 0) (spot 2 0) 8 ≡ pos 0 ∷ pos 0 ∷ pos 1 ∷ pos 0 ∷ pos 2 ∷ pos 0 ∷ pos 9 ∷ pos 9 ∷ []
  -- the way back is another list: no fixed waypoints, start and goal not swapped
  pub written_back : route free3 (spot 2 0) (spot 0 0) 6 ≡ pos 2 ∷ pos 0 ∷ pos 1 ∷ pos 0 ∷ pos 0 ∷ pos 0 ∷ []
  -- ROOM for one point less, with the pops, and nothing written
  pub room_short : answer_of 5 (single free3 new_settings (spot 0 0) (spot 2 0)) ≡ told 3 (Err refusal.Room)
  pub room_kept : route free3 (spot 0 0) (spot 2 0) 5 ≡ nines 5
  -- the last pop allowed may find the goal, and room for just so many points is enough: no pop counted before, and no point more
  pub pops_enough : answer_of 6 (single free3 (limits 3 8192) (spot 0 0) (spot 2 0)) ≡ told 3 (Ok (found_of 3 140))
  -- POPS where another is needed, not one pop more; and before ROOM
  pub pops_spent : answer_of 0 (single free3 (limits 1 8192) (spot 0 0) (spot 2 0)) ≡ told 1 (Err refusal.Pops)
  -- FRINGE at the second of two successors, not one entry more; and before ROOM
  pub fringe_spent : answer_of 0 (single free3 (limits 9 1) (spot 1 0) (spot 2 0)) ≡ told 1 (Err refusal.Fringe)
  -- EXHAUSTED with the start's pop, though the ends share a component; and before POPS, where no other pop is allowed, and ROOM
  pub exhausted : answer_of 0 (single gap3 (limits 1 8192) (spot 0 0) (spot 2 0)) ≡ told 1 (Err refusal.Exhausted)
  -- a new grid has singleton components: NO_ROUTE before any pop, and before ROOM
  pub no_route : answer_of 0 (single new2 new_settings (spot 0 0) (spot 1 0)) ≡ told 0 (Err refusal.NoRoute)
  -- rebuilt, the goal is found with two pops
  pub rebuilt : answer_of 4 (single free2 new_settings (spot 0 0) (spot 1 0)) ≡ told 2 (Ok (found_of 2 70))
  -- a start that is the goal is one waypoint, even blocked; an approximate search asks its neighbours
  pub start_is_goal : answer_of 2 (single shut2 new_settings (spot 0 0) (spot 0 0)) ≡ told 1 (Ok (found_of 1 0))
  pub approximate : answer_of 2 (single_of new2 new_settings most true (spot 0 0) (spot 0 0)) ≡ told 0 (Err refusal.NoRoute)
  -- an approximate goal is reached one step before it, and not at the point itself (2 pops, 70)
  pub near_enough : answer_of 2 (single_of free2 new_settings most true (spot 0 0) (spot 1 0)) ≡ told 1 (Ok (found_of 1 0))
  -- several goals ask no component: found on the new grid
  pub unasked : answer_of 4 (several new2 new_settings (spot 0 0) (pos 1 ∷ pos 0 ∷ [])) ≡ told 2 (Ok (found_of 2 70))
  -- so a start outside the grid may search, and is the first waypoint
  pub from_outside : answer_of 6 (several free2 new_settings outside (pos 1 ∷ pos 0 ∷ [])) ≡ told 3 (Ok (found_of 3 140))
  pub outside_first : out_after (nines 6) (several_plan free2 new_settings outside (pos 1 ∷ pos 0 ∷ [])) (several free2 new_settings outside (pos 1 ∷ pos 0 ∷ [])) ≡ negsuc 0 ∷ pos 0 ∷ pos 0 ∷ pos 0 ∷ pos 1 ∷ pos 0 ∷ []

-- ---- their steps

-- three nodes in a row
abbrev pub three : Nodes
three = record { number = 1 ∷ 2 ∷ 3 ∷ []; place = 0 ∷ 1 ∷ 2 ∷ []; parent = 0 ∷ 0 ∷ 1 ∷ []; cost = 0 ∷ 70 ∷ 140 ∷ []; count = 3 }

-- the middle one reached at 69 from the last
abbrev pub cheaper : Nodes
cheaper = record { number = 1 ∷ 2 ∷ 3 ∷ []; place = 0 ∷ 1 ∷ 2 ∷ []; parent = 0 ∷ 2 ∷ 1 ∷ []; cost = 0 ∷ 69 ∷ 140 ∷ []; count = 3 }

-- working room for so many places, and for so many fringe entries
abbrev pub room : ℕ → ℕ → Lengths
room places entries = record { number = places; place = places; parent = places; cost = places; keys = entries; idx = entries }

-- a search of 2 by 1 from outside
abbrev pub plan : Plan
plan = record { start = outside; goal = Exact (spot 1 0); w = 2; h = 1; target = 1; settings = new_settings }

pub record Steps : Type 0 where
  -- the least estimate and guess have the largest key: no other one
  pub key_most : key_of 0 0 ≡ 18446744073709551615
  -- a smaller estimate has the larger key; on a tie the larger cost, which is the smaller guess
  pub estimate_first : ltb (key_of 211 0) (key_of 210 140) ≡ true
  pub cost_next : ltb (key_of 210 140) (key_of 210 70) ≡ true
  -- the cost comes back from the key, and is never below 0
  pub key_cost : cost_of (key_of 210 70) ≡ 140
  pub key_none : cost_of (key_of 0 70) ≡ 0
  -- a larger key that is pushed rises, with its index
  pub larger_rises : push (entry 5 0 ∷ []) (entry 6 1) ≡ entry 6 1 ∷ entry 5 0 ∷ []
  -- an equal key that is pushed does not rise
  pub tie_stays : push (entry 5 0 ∷ []) (entry 5 1) ≡ entry 5 0 ∷ entry 5 1 ∷ []
  -- of two equal children the second rises, not the left one
  pub tie_second : rest (entry 9 0 ∷ entry 5 1 ∷ entry 5 2 ∷ entry 1 3 ∷ []) ≡ entry 5 2 ∷ entry 5 1 ∷ entry 1 3 ∷ []
  -- the larger child: the second on a tie, and the first where it is larger
  pub larger_child : (larger_of (5 ∷ 5 ∷ []) 0 ≡ 1) × (larger_of (6 ∷ 5 ∷ []) 0 ≡ 0)
  -- an entry is copied to a place: not the other way, and not exchanged
  pub copied : set {A = ℕ} (5 ∷ 6 ∷ []) 1 (get_or (5 ∷ 6 ∷ []) 0 0) ≡ 5 ∷ 5 ∷ []
  -- a successor at the recorded cost is not taken
  pub equal_left : note_of 1 2 70 three ≡ note false 1 three
  -- a cheaper one is, and keeps its first number
  pub number_kept : note_of 1 2 69 three ≡ note true 1 cheaper
  -- a successor is pushed with its cost and guess as estimate
  pub estimate_pushed : offer_of 1 70 2 1 69 (state three [] 0) ≡ ok (state cheaper (entry (key_of 139 70) 1 ∷ []) 1)
  -- FRINGE where the entries are as many as the limit: not one entry more
  pub entries_most : offer_of 1 70 2 1 69 (state three (entry 5 0 ∷ []) 1) ≡ no refusal.Fringe
  -- the place after the last cell is the start's, and no other is
  pub start_place : (place_point plan 2 ≡ outside) × (place_point plan 1 ≡ spot 1 0)
  -- a search begins with the start alone, at no cost: not with another place, and with no number left from before
  pub start_alone : begin 2 1 ≡ state (record { number = 0 ∷ 1 ∷ []; place = 1 ∷ []; parent = 0 ∷ []; cost = 0 ∷ []; count = 1 }) (entry (key_of 0 0) 0 ∷ []) 1
  -- a refusal before searching has no pop
  pub no_pop : early refusal.State ≡ told 0 (Err refusal.State)
  -- working room for just so many places and entries is enough; one place or one entry less is SETTING
  pub room_tested : (ready_of new_settings (room 3 8192) 3 ≡ true) × (ready_of new_settings (room 2 8192) 3 ≡ false) × (ready_of new_settings (room 3 8191) 3 ≡ false)
  -- an approximate goal is near the point, any other is the point: not the other way round
  pub goal_kinds : (kind_of true (spot 1 0) ≡ Near (spot 1 0)) × (kind_of false (spot 1 0) ≡ Exact (spot 1 0))
  -- a plan has its start and its goal in their places, and the number of the goal's cell
  pub planned : plan_of 2 1 new_settings (Exact (spot 1 0)) outside ≡ plan
