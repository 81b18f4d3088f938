-- The joins of a cell with its free neighbours. w and h, the sides, are parameters. A cell (x, y) has the number y * w + x. Assumes nothing.
use Rattle.std.specs.Prelude.{Bool, true, false, cond, List, [], ◌∷◌, ℕ, ◌+◌, ◌*◌, ◌≤◌, ◌<◌, length, get_or, eqb, ltb}
use Rattle.components.specs.Components.{Links, united}
use Rattle.cells.specs.Cells.{cell_to}

-- the directions in which an edit joins a cell: the neighbourhood, in its order
unfoldable pub around : Bool → List ℕ
around true = 0 ∷ 1 ∷ 2 ∷ 3 ∷ 4 ∷ 5 ∷ 6 ∷ 7 ∷ []
around false = 0 ∷ 2 ∷ 4 ∷ 6 ∷ []

-- the directions in which a rebuild joins a cell: (x,y+1), (x,y-1), (x+1,y), and with diagonals (x+1,y-1), (x+1,y) again, (x+1,y+1)
unfoldable pub ahead : Bool → List ℕ
ahead true = 4 ∷ 0 ∷ 2 ∷ 1 ∷ 2 ∷ 3 ∷ []
ahead false = 4 ∷ 0 ∷ 2 ∷ []

-- cell i is joined with cell c where c is one of the n cells, and free
unfoldable pub join_cell : ℕ → List ℕ → ℕ → ℕ → Links → Links
join_cell n blocked i c u = cond (ltb c n) (cond (eqb (get_or blocked c 0) 0) (united u.parent u.rank i c) u) u

-- the cell (x, y) is joined with its free neighbours in the directions ds, in order
unfoldable pub joined_to : ℕ → ℕ → List ℕ → ℕ → ℕ → List ℕ → Links → Links
joined_to w h blocked x y [] u = u
joined_to w h blocked x y (d ∷ ds) u = joined_to w h blocked x y ds (join_cell (w * h) blocked (y * w + x) (cell_to w h x y d) u)

-- a list of directions
pub record Ways (l : List ℕ) : Type 0 where
  pub few : length l ≤ 8
  pub each : (k : ℕ) → k < length l → get_or l k 0 < 8
