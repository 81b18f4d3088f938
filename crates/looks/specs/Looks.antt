-- Straight jumps, and what a jump sees of them. Assumes nothing: these are definitions.
use Rattle.std.specs.Prelude.{Bool, true, false, cond, List, Option, Some, None, ℕ, zero, suc, ◌+◌, ◌-◌, ◌%◌, min, eqb, ℤ}
use Rattle.directions.specs.Offsets.{off_x, off_y}
use Rattle.goals.specs.declared.Plan.{Plan}
use Rattle.goals.specs.Goals.{both, either, Aimed}
use Rattle.stops.specs.declared.Jump.{Jump}
use Rattle.stops.specs.Stops.{Sized, Marked, landing, free_at, stops_at}

-- what a jump asks: a byte for each cell that says blocked, one of forced directions, goals in range, and the number of the goal's cell
pub record Floor (blocked forced : List ℕ) (goals : List ℤ) (p : Plan) : Type 0 where
  pub sized : Sized blocked p.w p.h
  pub sized_forced : Sized forced p.w p.h
  pub aimed : Aimed goals p
  pub marked : Marked p

-- how many cells of a side lie ahead of a place, by an offset that is not 1
abbrev pub ahead_of : ℕ → ℕ → ℕ → ℕ
ahead_of zero side at = at - 1
ahead_of (suc o) side at = side - at

-- how many cells lie inside in the direction of an offset
unfoldable pub reach_of : ℕ → ℕ → ℕ → ℕ → ℕ → ℕ → ℕ
reach_of ox oy w h x y =
    cond (eqb ox 1) (ahead_of oy h y) (cond (eqb oy 1) (ahead_of ox w x) (min (ahead_of ox w x) (ahead_of oy h y)))

-- what one step finds: nothing where the cell is not free, the cell where it stops, or what lies beyond
abbrev pub found : Bool → Bool → Option Jump → Option Jump → Option Jump
found false b here beyond = None
found true true here beyond = here
found true false here beyond = beyond

-- at most n steps of an offset: the first free cell that stops it. The first step is at the given cost, each later one adds its price
unfoldable pub run : (ℕ → ℕ → Bool) → (ℕ → ℕ → Bool) → ℕ → ℕ → ℕ → ℕ → ℕ → ℕ → ℕ → Option Jump
run free stops ox oy price zero x y cost = None
run free stops ox oy price (suc n) x y cost =
    found (free (x + ox - 1) (y + oy - 1)) (stops (x + ox - 1) (y + oy - 1))
    (Some (landing (record { x = x + ox - 1; y = y + oy - 1 }) cost))
    (run free stops ox oy price n (x + ox - 1) (y + oy - 1) (cost + price))

-- a jump in direction d over free cells
abbrev pub run_on : List ℕ → Plan → (ℕ → ℕ → Bool) → ℕ → ℕ → ℕ → ℕ → ℕ → Option Jump
run_on blocked p stops d price x y cost =
    run (free_at blocked p.w p.h) stops (off_x (d % 8)) (off_y (d % 8)) price (p.w + p.h) x y cost

abbrev pub is_at : Option Jump → Bool
is_at (Some j) = true
is_at None = false

-- a straight jump from a cell finds something
unfoldable pub sees_on : List ℕ → List ℕ → List ℤ → Plan → ℕ → ℕ → ℕ → Bool
sees_on blocked forced goals p d x y = is_at (run_on blocked p (stops_at forced goals p d) d 70 x y 1)

unfoldable pub sees_either : List ℕ → List ℕ → List ℤ → Plan → ℕ → ℕ → ℕ → ℕ → Bool
sees_either blocked forced goals p d e x y = either (sees_on blocked forced goals p d x y) (sees_on blocked forced goals p e x y)

-- d is diagonal, and a straight jump along x or y finds something
unfoldable pub turns_at : List ℕ → List ℕ → List ℤ → Plan → ℕ → ℕ → ℕ → Bool
turns_at blocked forced goals p d x y = both (eqb (d % 2) 1) (sees_either blocked forced goals p ((d + 7) % 8) ((d + 1) % 8) x y)
