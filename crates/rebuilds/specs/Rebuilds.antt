-- The components of a rebuild: singletons, joined cell by cell and column by column.
-- w and h, the sides, are parameters. A cell (x, y) has the number y * w + x. Assumes nothing.
use Rattle.std.specs.Prelude.{Bool, cond, List, ℕ, zero, suc, ◌+◌, ◌*◌, get_or, eqb}
use Rattle.components.specs.Components.{Links}
use Rattle.fills.specs.Fills.{new_blocked, new_parent}
use Rattle.joins.specs.Joins.{ahead, joined_to}

-- a rebuild at one cell, free or not
unfoldable pub cell_joined : ℕ → ℕ → Bool → List ℕ → ℕ → ℕ → Links → Links
cell_joined w h diagonal blocked x y u = cond (eqb (get_or blocked (y * w + x) 0) 0) (joined_to w h blocked x y (ahead diagonal) u) u

-- at the first m cells of the column x
unfoldable pub column_to : ℕ → ℕ → Bool → List ℕ → ℕ → ℕ → Links → Links
column_to w h diagonal blocked x zero u = u
column_to w h diagonal blocked x (suc m) u = cell_joined w h diagonal blocked x m (column_to w h diagonal blocked x m u)

-- at the first m columns
unfoldable pub columns_to : ℕ → ℕ → Bool → List ℕ → ℕ → Links → Links
columns_to w h diagonal blocked zero u = u
columns_to w h diagonal blocked (suc m) u = column_to w h diagonal blocked m h (columns_to w h diagonal blocked m u)

-- singletons: each cell its own component
abbrev pub singles : ℕ → ℕ → List ℕ → List ℕ → Links
singles w h p k = record { parent = new_parent w h p; rank = new_blocked w h k }

-- the components of a rebuild
abbrev pub rebuilt_links : ℕ → ℕ → Bool → List ℕ → List ℕ → List ℕ → Links
rebuilt_links w h diagonal blocked p k = columns_to w h diagonal blocked w (singles w h p k)

-- a grid of the longest sides has 2 to this many cells, so no rank of a grid that the calls made is above it
abbrev pub most_rank : ℕ
most_rank = 12
