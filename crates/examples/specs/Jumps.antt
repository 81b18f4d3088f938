-- Worked examples of jumps and expansions, on grids of a few cells: each states the right answer where a likely mistake gives another.
-- Assumes nothing: these are statements.
use Rattle.std.specs.Prelude.{◌≡◌, Bool, true, false, Some, None, List, [], ◌∷◌, ℕ, ◌+◌, ◌%◌, ℤ, pos, replicate}
use Rattle.points.specs.declared.Point.{Point}
use Rattle.points.specs.declared.Refusal.TheVariants.{Depth, Fringe, Same}
use Rattle.masks.specs.Masks.{has_bit}
use Rattle.costs.specs.declared.Settings.{Settings}
use Rattle.costs.specs.Scale.{one}
use Rattle.costs.specs.Limits.{most_pops, most_fringe}
use Rattle.goals.specs.declared.Plan.{Plan}
use Rattle.goals.specs.declared.Goal.TheVariants.{Exact, Near, Several}
use Rattle.goals.specs.Goals.{point_of, goal_at}
use Rattle.offers.specs.Search.{Out, ok, no, onward, begin}
use Rattle.stops.specs.declared.Cell.{Cell}
use Rattle.stops.specs.Stops.{landing, target_in, number_of, spot_of, byte_at, free_at, stops_at, price_of}
use Rattle.looks.specs.Looks.{reach_of, sees_on}
use Rattle.jumps.specs.Jumps.{halts_at, jump_of}
use Rattle.starts.specs.Start.{toward_of}
use Rattle.successors.specs.Successors.{parent_of, Clear, again_at, give_of}
use Rattle.expansion.specs.Expand.{Tables, tables, expand_at}
use Rattle.expansion.specs.Start.{yield_of}

-- ---- what the examples are about

-- the point of a column and a row, and the cell there
abbrev pub point : ℕ → ℕ → Point
point x y = record { x = pos x; y = pos y }

abbrev pub cell : ℕ → ℕ → Cell
cell x y = record { x = x + 1; y = y + 1 }

-- a new grid's settings but for the diagonals and the depth limit
abbrev pub settings : Bool → ℕ → Settings
settings diagonal depth = record { factor = one; diagonal = diagonal; improved = true; depth = depth; pops = most_pops; fringe = most_fringe }

-- a search from a start to one goal
abbrev pub plan_in : Settings → ℕ → ℕ → Point → Point → Plan
plan_in s w h start goal = record { start = start; goal = Exact goal; w = w; h = h; target = target_in w h (Exact goal); settings = s }

abbrev pub plan : ℕ → ℕ → Point → Point → Plan
plan w h start goal = plan_in (settings true 64) w h start goal

-- n bytes of 0: free cells, or no direction
abbrev pub zeros : ℕ → List ℕ
zeros n = replicate {A = ℕ} n 0

-- a list of no goals: the one goal is in the plan
abbrev pub none : List ℤ
none = []

-- the start, at its place of n, is expanded, and then the node i at the cost k
abbrev pub after : Tables → Plan → ℕ → ℕ → ℕ → ℕ → Out
after t p n start i k = onward (yield_of t p 0 0 (begin n start)) (yield_of t p i k)

-- the cells that are recorded, and their costs
abbrev pub cells_of : Out → List ℕ
cells_of (ok s) = s.nodes.place
cells_of (no w) = []

abbrev pub costs_of : Out → List ℕ
costs_of (ok s) = s.nodes.cost
costs_of (no w) = []

-- a row of four cells, each with the next as its neighbour and none forced
abbrev pub row : Tables
row = tables (zeros 4) (4 ∷ 4 ∷ 4 ∷ 0 ∷ []) (zeros 4) none

abbrev pub row_plan : Plan
row_plan = plan 4 1 (point 0 0) (point 3 0)

-- a column of four cells, each with the one above as its neighbour and none forced
abbrev pub column : Tables
column = tables (zeros 4) (0 ∷ 1 ∷ 1 ∷ 1 ∷ []) (zeros 4) none

-- 3 by 3 cells, the middle one blocked, with their own masks
abbrev pub ring : Tables
ring =
    tables (0 ∷ 0 ∷ 0 ∷ 0 ∷ 1 ∷ 0 ∷ 0 ∷ 0 ∷ 0 ∷ []) (20 ∷ 108 ∷ 80 ∷ 27 ∷ 255 ∷ 177 ∷ 5 ∷ 198 ∷ 65 ∷ [])
    (127 ∷ 238 ∷ 253 ∷ 187 ∷ 0 ∷ 187 ∷ 223 ∷ 238 ∷ 247 ∷ []) none

-- 4 by 2 free cells with masks that no call makes: from the start (0,1) the node (1,0) leads down to (2,1), which leads along x to the goal (3,1)
abbrev pub bent : Tables
bent = tables (zeros 8) (0 ∷ 8 ∷ 0 ∷ 0 ∷ 0 ∷ 0 ∷ 4 ∷ 0 ∷ []) (zeros 8) none

abbrev pub bent_plan : ℕ → Plan
bent_plan depth = plan_in (settings true depth) 4 2 (point 0 1) (point 3 1)

-- the same, but that (1,0) leads along x to (2,0) too, which is forced: with no level allowed and so many fringe entries
abbrev pub forked : Tables
forked = tables (zeros 8) (0 ∷ 12 ∷ 0 ∷ 0 ∷ 0 ∷ 0 ∷ 4 ∷ 0 ∷ []) (0 ∷ 0 ∷ 4 ∷ 0 ∷ 0 ∷ 0 ∷ 0 ∷ 0 ∷ []) none

abbrev pub forked_plan : ℕ → Plan
forked_plan entries = plan_in (record { factor = one; diagonal = true; improved = true; depth = 0; pops = most_pops; fringe = entries }) 4 2 (point 0 1) (point 3 1)

-- ---- the examples

pub record Jumps : Type 0 where
  -- a cell's number counts rows of w cells; by columns (1,0) were 3 and (0,1) were 1
  pub number_by_row : (number_of 3 2 1 ≡ 1) × (number_of 3 1 2 ≡ 3)
  -- a cell's point has the column first
  pub column_first : spot_of 2 1 ≡ point 1 0
  -- inside is x up to the width and y up to the height; with the sides swapped the answers were no and yes
  pub sides_in_order : (free_at (zeros 6) 3 2 3 1 ≡ true) × (free_at (zeros 6) 3 2 1 3 ≡ false)
  -- a blocked cell is not free
  pub blocked_not_free : (free_at (0 ∷ 1 ∷ []) 2 1 2 1 ≡ false) × (free_at (0 ∷ 1 ∷ []) 2 1 1 1 ≡ true)
  -- a cell's byte stands at its number, one less than its column: not the next cell's (12), and not the one below (13)
  pub byte_there_lem : byte_at (10 ∷ 11 ∷ 12 ∷ 13 ∷ []) 2 2 1 ≡ 11
  -- a diagonal step is 99, a straight one 70
  pub step_prices : (price_of 1 ≡ 99) × (price_of 2 ≡ 70)
  -- the number of the goal's cell: w * h where it is outside, and one more where the goal is not one point
  pub goal_numbers : (target_in 2 1 (Exact (point 1 0)) ≡ 1) × ((target_in 2 1 (Exact (point 2 0)) ≡ 2) × ((target_in 2 1 (Near (point 1 0)) ≡ 3) × (target_in 2 1 (Several 2) ≡ 3)))
  -- the goal is known by its cell's number, and no other cell is it
  pub goal_by_number : (goal_at none row_plan (point_of 4 3) ≡ true) × (goal_at none row_plan (point_of 4 2) ≡ false)
  -- a cell that is forced for one direction stops no other
  pub forced_for_its_direction : (stops_at (16 ∷ 0 ∷ []) none (plan 2 1 (point 1 0) (point 1 0)) 4 1 1 ≡ true) × (stops_at (16 ∷ 0 ∷ []) none (plan 2 1 (point 1 0) (point 1 0)) 0 1 1 ≡ false)
  -- a jump stops at the goal, two cells on, and does not pass it
  pub stops_at_the_goal : jump_of (zeros 4) (zeros 4) none (plan 4 1 (point 0 0) (point 2 0)) 2 (cell 0 0) 70 ≡ Some (landing (cell 2 0) 140)
  -- it finds nothing on leaving free cells, at the edge and before a blocked cell: it does not invent the last cell
  pub nothing_beyond : (jump_of (zeros 3) (zeros 3) none (plan 3 1 (point 0 0) (point 0 0)) 2 (cell 0 0) 70 ≡ None) × (jump_of (0 ∷ 0 ∷ 1 ∷ 0 ∷ []) (zeros 4) none row_plan 2 (cell 0 0) 70 ≡ None)
  -- the first step is at the caller's price, 99, and not at its own, 70; the second at its own
  pub first_step_by_travel : jump_of (zeros 3) (zeros 3) none (plan 3 1 (point 0 0) (point 2 0)) 2 (cell 0 0) 99 ≡ Some (landing (cell 2 0) 169)
  -- of 3 by 4 cells, ahead of the second column and the second row lie 1 to the right, 2 below, and on the slant as many as on the shorter side
  pub cells_ahead : (reach_of 2 1 3 4 2 2 ≡ 1) × ((reach_of 1 2 3 4 2 2 ≡ 2) × (reach_of 2 2 3 4 2 2 ≡ 1))
  -- a straight jump is followed to the last cell of a row
  pub to_the_last_cell : sees_on (zeros 3) (zeros 3) none (plan 3 1 (point 0 0) (point 2 0)) 2 1 1 ≡ true
  -- a diagonal jump stops where the goal lies along x, and where it lies along y, and not where it lies askew
  pub along_both_axes : (halts_at (zeros 4) (zeros 4) none (plan 2 2 (point 0 0) (point 1 0)) 3 1 1 ≡ true)
      × ((halts_at (zeros 4) (zeros 4) none (plan 2 2 (point 0 0) (point 0 1)) 3 1 1 ≡ true) × (halts_at (zeros 4) (zeros 4) none (plan 2 2 (point 0 0) (point 1 1)) 3 1 1 ≡ false))
  -- diagonals off, a jump stops where a perpendicular one finds something, on either side
  pub perpendicular_on_both_sides : (halts_at (zeros 3) (zeros 3) none (plan_in (settings false 64) 1 3 (point 0 0) (point 0 0)) 2 1 2 ≡ true) × (halts_at (zeros 3) (zeros 3) none (plan_in (settings false 64) 1 3 (point 0 0) (point 0 2)) 2 1 2 ≡ true)
  -- what a diagonal reached is expanded again; not a forced cell, not a goal, and not what a straight direction reached
  pub again_if_neither_goal_nor_forced : (again_at (0 ∷ []) none (plan 1 1 (point 0 0) (point 1 0)) 3 (cell 0 0) ≡ true)
      × ((again_at (8 ∷ []) none (plan 1 1 (point 0 0) (point 1 0)) 3 (cell 0 0) ≡ false)
      × ((again_at (0 ∷ []) none (plan 1 1 (point 0 0) (point 0 0)) 3 (cell 0 0) ≡ false) × (again_at (0 ∷ []) none (plan 1 1 (point 0 0) (point 1 0)) 2 (cell 0 0) ≡ false)))
  -- a diagonal neighbour of the start costs 99, a straight one 70
  pub neighbour_prices : (costs_of (toward_of (zeros 4) none (plan 2 2 (point 0 0) (point 1 1)) 0 0 3 (begin 5 0)) ≡ 0 ∷ 99 ∷ []) × (costs_of (toward_of (zeros 4) none (plan 2 2 (point 0 0) (point 1 1)) 0 0 2 (begin 5 0)) ≡ 0 ∷ 70 ∷ [])
  -- with diagonals off a diagonal neighbour of the start is not offered, and a blocked one never is
  pub neighbours_left_out : (cells_of (toward_of (zeros 4) none (plan_in (settings false 64) 2 2 (point 0 0) (point 1 1)) 0 0 3 (begin 5 0)) ≡ 0 ∷ [])
      × (cells_of (toward_of (0 ∷ 1 ∷ 0 ∷ 0 ∷ []) none (plan 2 2 (point 0 0) (point 1 1)) 0 0 2 (begin 5 0)) ≡ 0 ∷ [])
  -- the start has no parent; any other node has the recorded one, not the node before it
  pub recorded_parent : (parent_of (5 ∷ 6 ∷ []) 0 ≡ None) × (parent_of (5 ∷ 6 ∷ []) 1 ≡ Some 6)
  -- of the directions 0 and 2 the next from 1 on is 2: it is not passed over, and 1 is not taken for one
  pub not_passed_over : Clear 5 1 3 → ⊥
  pub not_of_the_mask : has_bit 5 (1 % 8) ≡ false
  -- a cell is offered by its number, one less than its column, and at its whole cost
  pub given : (cells_of (give_of none row_plan 0 (cell 2 0) 140 (begin 5 0)) ≡ 0 ∷ 2 ∷ []) × (costs_of (give_of none row_plan 0 (cell 2 0) 140 (begin 5 0)) ≡ 0 ∷ 140 ∷ [])
  -- the start yields its neighbour, and not the goal that a jump from it would reach
  pub start_yields_neighbours : cells_of (yield_of row row_plan 0 0 (begin 5 0)) ≡ 0 ∷ 1 ∷ []
  -- the node after it yields a jump, over the next cell to the goal
  pub others_yield_jumps : cells_of (after row row_plan 5 0 1 70) ≡ 0 ∷ 1 ∷ 3 ∷ []
  -- direction 0 is followed as any other: from (0,3) up to the goal (0,0)
  pub first_direction_followed : cells_of (after column (plan 1 4 (point 0 3) (point 0 0)) 5 3 1 70) ≡ 3 ∷ 2 ∷ 0 ∷ []
  -- a straight step of a node that was reached diagonally: the direction of travel prices it at 99, its own were 70
  pub priced_by_travel : costs_of (after (tables (zeros 6) (0 ∷ 4 ∷ 0 ∷ 0 ∷ 0 ∷ 0 ∷ []) (zeros 6) none) (plan 3 2 (point 0 1) (point 2 0)) 7 3 2 99) ≡ 0 ∷ 70 ∷ 99 ∷ 70 ∷ 198 ∷ []
  -- the node after the start goes by the rules too: round the blocked middle it yields (2,0) and (2,1), and does not invent a way to the goal (2,2)
  pub jumps_on : cells_of (after ring (plan 3 3 (point 0 0) (point 2 2)) 10 0 1 70) ≡ 0 ∷ 1 ∷ 3 ∷ 2 ∷ 5 ∷ []
  -- where no level is allowed the cell to expand again is refused with DEPTH; one level is enough for it
  pub levels_allowed : (after bent (bent_plan 0) 9 4 2 99 ≡ no Depth) × (cells_of (after bent (bent_plan 1) 9 4 2 99) ≡ 4 ∷ 0 ∷ 1 ∷ 5 ∷ 7 ∷ [])
  -- the first refusal met is given: the successor (2,0) comes before the cell to expand again, so FRINGE before DEPTH
  pub first_met : (after forked (forked_plan 4) 9 4 2 99 ≡ no Fringe) × (after forked (forked_plan 5) 9 4 2 99 ≡ no Depth)
  -- a cell that is its own parent has no direction of travel: SAME with the point
  pub own_parent : expand_at row row_plan 1 64 (point 1 0) (cell 1 0) 70 (begin 5 0) ≡ no (Same (point 1 0))
  -- expanding again keeps the parent: from (0,1) the cell (2,1) lies along x, so the goal costs 99 + 99 + 70; with the node (1,0) as parent it were 99 + 99 + 99
  pub same_parent : costs_of (after bent (bent_plan 64) 9 4 2 99) ≡ 0 ∷ 70 ∷ 99 ∷ 70 ∷ 268 ∷ []
