-- When STATE is refused: of no grid that the calls make; and how high an edit of any other grid takes its ranks, of which STATE allows 200.
-- Assumes nothing.
use Rattle.std.specs.Prelude.{◌≡◌, Bool, true, List, ℕ, ◌*◌, ◌≤◌, ◌<◌, length, get_or}
use Rattle.points.specs.declared.Point.{Point}
use Rattle.cells.specs.Cells.{most_side}
use Rattle.fills.specs.Fills.{MasksRight}
use Rattle.rebuilds.specs.Rebuilds.{most_rank}
use Rattle.grid.specs.declared.Grid.{Grid}
use Rattle.grid.specs.Grids.{legal_of, set_outcome}
use Rattle.demand.specs.Calls.{Begin, begun, Call, after}
use Rattle.demand.specs.Demand3.{ForcedRight}

-- a grid of w by h of which STATE is not refused, whose masks are right, and none of whose ranks is above log2 of the most cells
pub record Made (w h : ℕ) (g : Grid) : Type 0 where
  pub wide : g.width ≡ w
  pub high : g.height ≡ h
  pub legal : legal_of g ≡ true
  pub masks : MasksRight w h g.blocked g.neighbours
  pub forced : ForcedRight w h g.blocked g.forced
  pub low : (i : ℕ) → i < w * h → get_or g.rank i 0 ≤ most_rank

-- every grid that the calls make, rebuilt or not
abbrev pub NeverRefused : Type 0
NeverRefused = (s : Begin) (calls : List Call) → Made (begun s).width (begun s).height (after (begun s) calls)

-- the arrays of a grid value are as long as they are declared
pub record Long (g : Grid) : Type 0 where
  pub parent : most_side * most_side ≤ length g.parent
  pub rank : most_side * most_side ≤ length g.rank

-- after one edit of any legal grid value no rank of a cell is above `most`
abbrev pub RanksTo : ℕ → Type 0
RanksTo most = (g : Grid) (diagonal : Bool) (p : Point) (b : Bool) → legal_of g ≡ true → Long g
    → (i : ℕ) → i < g.width * g.height → get_or (set_outcome g diagonal p b).grid.rank i 0 ≤ most

-- legal ranks are at most 200: an edit takes none above 201, and some edit takes one there
abbrev pub RanksTo201 : Type 0
RanksTo201 = RanksTo 201

abbrev pub NotTo200 : Type 0
NotTo200 = RanksTo 200 → ⊥
