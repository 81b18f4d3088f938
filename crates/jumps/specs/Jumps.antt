-- Jumps over the cells of a grid, and where they stop. Assumes nothing: these are definitions.
use Rattle.std.specs.Prelude.{Bool, not, List, Option, ℕ, ◌+◌, ◌%◌, ℤ}
use Rattle.goals.specs.declared.Plan.{Plan}
use Rattle.goals.specs.Goals.{both, either}
use Rattle.stops.specs.declared.Cell.{Cell}
use Rattle.stops.specs.declared.Jump.{Jump}
use Rattle.stops.specs.Stops.{stops_at, price_of}
use Rattle.looks.specs.Looks.{run_on, sees_either, turns_at}

-- a jump stops at a goal or forced cell, at a diagonal cell from which a straight jump along x or y finds something, and, diagonals off, where a perpendicular one does
unfoldable pub halts_at : List ℕ → List ℕ → List ℤ → Plan → ℕ → ℕ → ℕ → Bool
halts_at blocked forced goals p d x y =
    either (stops_at forced goals p d x y)
    (either (turns_at blocked forced goals p d x y)
    (both (not p.settings.diagonal) (sees_either blocked forced goals p ((d + 2) % 8) ((d + 6) % 8) x y)))

-- a jump from a cell: the first step is at the caller's price, later ones at their own
unfoldable pub jump_of : List ℕ → List ℕ → List ℤ → Plan → ℕ → Cell → ℕ → Option Jump
jump_of blocked forced goals p d from price =
    run_on blocked p (halts_at blocked forced goals p d) d (price_of d) from.x from.y price
