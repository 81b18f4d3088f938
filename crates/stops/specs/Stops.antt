-- The cells of a grid as a jump meets them. A cell's x and y are one more than its column and row, so that a step off the grid is still a number.
-- Assumes nothing: these are definitions.
use Rattle.std.specs.Prelude.{◌≡◌, Bool, List, ℕ, ◌+◌, ◌-◌, ◌*◌, ◌%◌, ◌≤◌, ◌<◌, eqb, leb, ℤ, pos, length, get_or}
use Rattle.points.specs.declared.Point.{Point}
use Rattle.masks.specs.Masks.{has_bit}
use Rattle.goals.specs.declared.Plan.{Plan}
use Rattle.goals.specs.declared.Goal.{Goal}
use Rattle.goals.specs.declared.Goal.TheVariants.{Exact, Near, Several}
use Rattle.goals.specs.Goals.{most_side, both, either, point_of, goal_at}
use Rattle.cells.specs.Cells.{cell_of}
use Rattle.stops.specs.declared.Cell.{Cell}
use Rattle.stops.specs.declared.Jump.{Jump}

-- a jump of its parts: the cell where it stops, and its cost
abbrev pub landing : Cell → ℕ → Jump
landing c k = record { cell = c; cost = k }

-- a table has a byte for each cell, and the sides are those that a grid may have
pub record Sized (t : List ℕ) (w h : ℕ) : Type 0 where
  pub size : length t ≡ h * w
  pub wide : w ≤ most_side
  pub high : h ≤ most_side

-- a cell inside the grid
pub record Within (w h x y : ℕ) : Type 0 where
  pub left : 1 ≤ x
  pub right : x ≤ w
  pub top : 1 ≤ y
  pub low : y ≤ h

abbrev pub Inside : Plan → Cell → Type 0
Inside p c = Within p.w p.h c.x c.y

-- a cell's number
abbrev pub number_of : ℕ → ℕ → ℕ → ℕ
number_of w x y = (y - 1) * w + (x - 1)

-- a cell that has a number on a grid that is w wide
pub record Placed (w x y : ℕ) : Type 0 where
  pub left : 1 ≤ x
  pub top : 1 ≤ y
  pub low : number_of w x y < most_side * most_side

-- a cell whose byte a table has
pub record Held (t : List ℕ) (w x y : ℕ) : Type 0 where
  pub placed : Placed w x y
  pub there : number_of w x y < length t

-- the number of the one cell that is the goal, w * h where that one is outside; one more where the goal is not one point
abbrev pub target_in : ℕ → ℕ → Goal → ℕ
target_in w h (Exact q) = cell_of w h q
target_in w h (Near q) = w * h + 1
target_in w h (Several n) = w * h + 1

-- a plan that has the number of its goal's cell
abbrev pub Marked : Plan → Type 0
Marked p = p.target ≡ target_in p.w p.h p.goal

-- the point of a cell that is inside
abbrev pub spot_of : ℕ → ℕ → Point
spot_of x y = record { x = pos (x - 1); y = pos (y - 1) }

-- the byte of a table at a cell
unfoldable pub byte_at : List ℕ → ℕ → ℕ → ℕ → ℕ
byte_at t w x y = get_or t (number_of w x y) 0

-- inside the grid, as a test
unfoldable pub within : ℕ → ℕ → ℕ → ℕ → Bool
within w h x y = both (both (leb 1 x) (leb x w)) (both (leb 1 y) (leb y h))

-- inside and free
unfoldable pub free_at : List ℕ → ℕ → ℕ → ℕ → ℕ → Bool
free_at blocked w h x y = both (within w h x y) (eqb (byte_at blocked w x y) 0)

-- a goal or forced cell
unfoldable pub stops_at : List ℕ → List ℤ → Plan → ℕ → ℕ → ℕ → Bool
stops_at forced goals p d x y = either (goal_at goals p (spot_of x y)) (has_bit (byte_at forced p.w x y) (d % 8))

-- the same by a cell's number
unfoldable pub stops_in : List ℕ → List ℤ → Plan → ℕ → ℕ → Bool
stops_in forced goals p d i = either (goal_at goals p (point_of p.w i)) (has_bit (get_or forced i 0) (d % 8))

-- the price of a step in direction d
abbrev pub price_of : ℕ → ℕ
price_of d = 70 + 29 * (d % 2)
