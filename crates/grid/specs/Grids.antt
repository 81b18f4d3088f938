-- A grid by value, the tests that come before each call, and what the calls that change a grid answer. Assumes nothing.
use Rattle.std.specs.Prelude.{Bool, false, cond, ◌&&◌, List, ℕ, ◌*◌, ◌≤◌, ltb, replicate, Result, Ok, Err}
use Rattle.points.specs.Plane.{legal}
use Rattle.points.specs.declared.Point.{Point}
use Rattle.points.specs.declared.Refusal.{Refusal}
use Rattle.points.specs.declared.Refusal.TheVariants.{Size, State, BadPoint}
use Rattle.components.specs.Components.{Forest}
use Rattle.states.specs.States.{state_ok}
use Rattle.cells.specs.Cells.{most_side, sized_of, place_of, cell_of, Sides}
use Rattle.tables.specs.Tables.{Tables, new_of, edit_of, rebuild_of, update_of}
use Rattle.grid.specs.declared.Grid.{Grid}
use Rattle.grid.specs.declared.Change.{Change}

-- a grid's tables, and the grid of some tables
abbrev pub tables_of : Grid → Tables
tables_of g = record { blocked = g.blocked; masks = g.neighbours; forced = g.forced; parent = g.parent; rank = g.rank; dirty = g.dirty }

abbrev pub grid_of : ℕ → ℕ → Tables → Grid
grid_of w h t = record { width = w; height = h; dirty = t.dirty; blocked = t.blocked; neighbours = t.masks; forced = t.forced; parent = t.parent; rank = t.rank }

-- a grid value whose size is in range, and each of whose cells has a rank of at most 200 and itself or a cell of higher rank for its parent
unfoldable pub legal_of : Grid → Bool
legal_of g = sized_of g.width g.height && state_ok (g.width * g.height) g.parent g.rank

-- what a legal grid value has: sides and cells in range, and a legal state
pub record Fits (g : Grid) : Type 0 where
  pub sides : Sides g.width g.height
  pub cells : g.width * g.height ≤ most_side * most_side
  pub forest : Forest 200 (g.width * g.height) g.parent g.rank

-- the number of the cell at a point, or width * height where the point is outside
abbrev pub cell_in : Grid → Point → ℕ
cell_in g p = cell_of g.width g.height p

-- STATE
unfoldable pub stated_of : Grid → Result Unit Refusal
stated_of g = cond (legal_of g) (Ok tt) (Err State)

-- the number of the cell at a point; STATE, then POINT for a point that is no cell of the grid
unfoldable pub located_of : Grid → Point → Result ℕ Refusal
located_of g p = cond (legal_of g) (cond (ltb (cell_in g p) (g.width * g.height)) (Ok (cell_in g p)) (Err (BadPoint p))) (Err State)

-- the numbers of the cells at the start and the goal; STATE, then POINT for coordinates out of range, the start's first
unfoldable pub asked_of : Grid → Point → Point → Result (ℕ × ℕ) Refusal
asked_of g start goal =
    cond (legal_of g)
    (cond (legal start) (cond (legal goal) (Ok (cell_in g start, cell_in g goal)) (Err (BadPoint goal))) (Err (BadPoint start)))
    (Err State)

-- the next grid where the tests pass, or their refusal with the grid as it came
abbrev pub changed : {A : Type 0} → Result A Refusal → Grid → Grid → Change
changed (Ok a) g next = record { outcome = Ok tt; grid = next }
changed (Err r) g next = record { outcome = Err r; grid = g }

-- `set`: STATE, POINT, then the edit
abbrev pub edit_grid : Grid → Bool → Point → Bool → Grid
edit_grid g diagonal p b =
    grid_of g.width g.height
    (edit_of g.width g.height diagonal (tables_of g) (place_of p.x g.width) (place_of p.y g.height) b)

unfoldable pub set_outcome : Grid → Bool → Point → Bool → Change
set_outcome g diagonal p b = changed (located_of g p) g (edit_grid g diagonal p b)

-- `generate_components` and `update`: STATE, then the rebuild
unfoldable pub rebuild_grid : Grid → Bool → Grid
rebuild_grid g diagonal = grid_of g.width g.height (rebuild_of g.width g.height diagonal (tables_of g))

unfoldable pub rebuild_outcome : Grid → Bool → Change
rebuild_outcome g diagonal = changed (stated_of g) g (rebuild_grid g diagonal)

unfoldable pub update_grid : Grid → Bool → Grid
update_grid g diagonal = grid_of g.width g.height (update_of g.width g.height diagonal (tables_of g))

unfoldable pub update_outcome : Grid → Bool → Change
update_outcome g diagonal = changed (stated_of g) g (update_grid g diagonal)

-- the room of a grid by value, before a new grid is made in it
abbrev pub zeros : List ℕ
zeros = replicate 4096 0

abbrev pub empty : Tables
empty = record { blocked = zeros; masks = zeros; forced = zeros; parent = zeros; rank = zeros; dirty = false }

-- a new grid
unfoldable pub new_grid : ℕ → ℕ → Grid
new_grid w h = grid_of w h (new_of w h empty)

-- `new`: SIZE comes with a new free grid of 1 by 1
unfoldable pub new_outcome : ℕ → ℕ → Change
new_outcome w h = cond (sized_of w h) (record { outcome = Ok tt; grid = new_grid w h }) (record { outcome = Err Size; grid = new_grid 1 1 })
