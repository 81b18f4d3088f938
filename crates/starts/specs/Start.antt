-- The start's free neighbours, and one of them offered. Assumes nothing: these are definitions.
use Rattle.std.specs.Prelude.{not, cond, List, Option, Some, None, ℕ, ◌+◌, ◌%◌, eqb, ℤ, pos, negsuc}
use Rattle.points.specs.Compass.{moved}
use Rattle.goals.specs.declared.Plan.{Plan}
use Rattle.goals.specs.Goals.{both}
use Rattle.offers.specs.Search.{State, Out, ok, offer_of, guess_at}
use Rattle.stops.specs.Stops.{number_of, free_at, price_of}

-- one more than a column or row, and 0 before the first
abbrev pub side_of : ℤ → ℕ
side_of (pos n) = n + 1
side_of (negsuc n) = 0

-- a cell by its number, if it is inside and free
unfoldable pub free_cell : List ℕ → ℕ → ℕ → ℕ → ℕ → Option ℕ
free_cell blocked w h x y = cond (free_at blocked w h x y) (Some (number_of w x y)) None

-- the start's free neighbour in direction d, none in a diagonal one with diagonals off
unfoldable pub neighbour_of : List ℕ → Plan → ℕ → Option ℕ
neighbour_of blocked p d =
    cond (both (eqb (d % 2) 1) (not p.settings.diagonal)) None
    (free_cell blocked p.w p.h (side_of (moved p.start d).x) (side_of (moved p.start d).y))

abbrev pub offered_to : List ℤ → Plan → ℕ → ℕ → State → Option ℕ → Out
offered_to goals p from k s (Some c) = offer_of p.settings.fringe (guess_at goals p c) from c k s
offered_to goals p from k s None = ok s

-- a step towards one neighbour, at its own price
unfoldable pub toward_of : List ℕ → List ℤ → Plan → ℕ → ℕ → ℕ → State → Out
toward_of blocked goals p from k d s = offered_to goals p from (k + price_of d) s (neighbour_of blocked p d)
