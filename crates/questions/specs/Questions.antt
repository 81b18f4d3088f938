-- The four questions about components, over cells' numbers. p is the cells' parents; w * h, or more, stands for a point outside.
-- Assumes nothing.
use Rattle.std.specs.Prelude.{Bool, false, not, ◌&&◌, ◌||◌, List, [], ◌∷◌, ℕ, ◌*◌, ◌/◌, ◌%◌, ltb, leb, eqb}
use Rattle.components.specs.Components.{root_of}
use Rattle.cells.specs.Cells.{cell_to}
use Rattle.joins.specs.Joins.{around}

-- c is one of the n cells, and its root is r
unfoldable pub rooted_of : ℕ → List ℕ → ℕ → ℕ → Bool
rooted_of n p r c = ltb c n && eqb r (root_of p c)

-- `reachable`: both are inside and share a component. `unreachable` is its contrary
unfoldable pub reachable_of : ℕ → List ℕ → ℕ → ℕ → Bool
reachable_of n p a c = ltb a n && rooted_of n p (root_of p a) c

-- some neighbour of (x, y) in the directions ds is inside, and its root is r
unfoldable pub near_along : ℕ → ℕ → List ℕ → ℕ → ℕ → ℕ → List ℕ → Bool
near_along w h p r x y [] = false
near_along w h p r x y (d ∷ ds) = rooted_of (w * h) p r (cell_to w h x y d) || near_along w h p r x y ds

-- some inside neighbour of the goal c (8 or 4, free or not) shares the component of the start a
unfoldable pub near_of : ℕ → ℕ → Bool → List ℕ → ℕ → ℕ → Bool
near_of w h diagonal p a c = near_along w h p (root_of p a) (c % w) (c / w) (around diagonal)

-- the neighbour questions: both yes where one is outside
unfoldable pub neighbours_reachable_of : ℕ → ℕ → Bool → List ℕ → ℕ → ℕ → Bool
neighbours_reachable_of w h diagonal p a c = leb (w * h) a || (leb (w * h) c || near_of w h diagonal p a c)

unfoldable pub neighbours_unreachable_of : ℕ → ℕ → Bool → List ℕ → ℕ → ℕ → Bool
neighbours_unreachable_of w h diagonal p a c = leb (w * h) a || (leb (w * h) c || not (near_of w h diagonal p a c))
