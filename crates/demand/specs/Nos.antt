-- THE DISPATCHER'S RULE: once the components of a grid are generated, and whatever is edited after that, every no of the four questions about two different
-- free cells is true: no walk joins them. The rebuild, the edits and the question go by one diagonal setting. Calls.antt says how the grid came about,
-- Walks.antt what a walk is. Assumes nothing.
use Rattle.std.specs.Prelude.{◌≡◌, Bool, true, false, List, ℕ, ◌+◌, ◌*◌, pos, Ok}
use Rattle.points.specs.declared.Point.{Point}
use Rattle.grid.specs.declared.Grid.{Grid}
use Rattle.grid.specs.Questions.{reachable_from, unreachable_from, neighbours_reachable_from, neighbours_unreachable_from}
use Rattle.demand.specs.Walks.{Free, Walk}
use Rattle.demand.specs.Calls.{Begin, begun, Call, after, Rebuilt, Edit, after_edits}

-- one of the four questions says no. The two about the goal's neighbours count where the goal is not the start: a cell has itself for no neighbour
pub data SaysNo (g : Grid) (diagonal : Bool) (start goal : Point) : Type 0 where
  reachable : reachable_from g start goal ≡ Ok false → SaysNo g diagonal start goal
  unreachable : unreachable_from g start goal ≡ Ok true → SaysNo g diagonal start goal
  neighbours_reachable : (start ≡ goal → ⊥) → neighbours_reachable_from g diagonal start goal ≡ Ok false → SaysNo g diagonal start goal
  neighbours_unreachable : (start ≡ goal → ⊥) → neighbours_unreachable_from g diagonal start goal ≡ Ok true → SaysNo g diagonal start goal

-- the cell (x, y) as a point
abbrev pub point : ℕ → ℕ → Point
point x y = record { x = pos x; y = pos y }

-- of a grid of w by h: where one of them says no of the free cells (x, y) and (i, j), no walk joins these
abbrev pub NoWalks : ℕ → ℕ → Bool → Grid → Type 0
NoWalks w h diagonal g = (x y i j : ℕ) → Free w h g.blocked x y → Free w h g.blocked i j
    → SaysNo g diagonal (point x y) (point i j)
    → Walk w h g.blocked diagonal (y * w + x) (j * w + i) → ⊥

-- the rule, for every size and every map text, every run of calls, both settings, both ways to rebuild, and every run of edits after the rebuild
abbrev pub NoIsTrue : Type 0
NoIsTrue = (s : Begin) (calls : List Call) (diagonal : Bool) (g : Grid) → Rebuilt diagonal (after (begun s) calls) g
    → (es : List Edit) → NoWalks (begun s).width (begun s).height diagonal (after_edits diagonal g es)
