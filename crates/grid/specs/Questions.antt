-- What the calls that ask a grid answer. Assumes nothing.
use Rattle.std.specs.Prelude.{Bool, not, ℕ, ◌*◌, ◌%◌, get_or, Result, Ok, Err}
use Rattle.points.specs.declared.Point.{Point}
use Rattle.points.specs.declared.Refusal.{Refusal}
use Rattle.masks.specs.Masks.{pruned_in}
use Rattle.components.specs.Components.{root_of}
use Rattle.questions.specs.Questions.{reachable_of, neighbours_reachable_of, neighbours_unreachable_of}
use Rattle.grid.specs.declared.Grid.{Grid}
use Rattle.grid.specs.Grids.{cell_in, located_of, asked_of}

-- the answer where the tests pass, and their refusal where they do not
abbrev pub answered : {A B : Type 0} → Result A Refusal → B → Result B Refusal
answered (Ok a) b = Ok b
answered (Err r) b = Err r

-- `get_component`: the root of the cell
unfoldable pub component_at : Grid → Point → Result ℕ Refusal
component_at g p = answered (located_of g p) (root_of g.parent (cell_in g p))

-- the masks that the tables hold of a cell, and the pruned mask for travel d, read modulo 8
unfoldable pub neighbour_mask_at : Grid → Point → Result ℕ Refusal
neighbour_mask_at g p = answered (located_of g p) (get_or g.neighbours (cell_in g p) 0)

unfoldable pub forced_mask_at : Grid → Point → Result ℕ Refusal
forced_mask_at g p = answered (located_of g p) (get_or g.forced (cell_in g p) 0)

unfoldable pub pruned_mask_at : Grid → Bool → Point → ℕ → Result ℕ Refusal
pruned_mask_at g diagonal p d = answered (located_of g p) (pruned_in diagonal (d % 8) (get_or g.neighbours (cell_in g p) 0))

-- the four questions, of the cells at two points
unfoldable pub reachable_from : Grid → Point → Point → Result Bool Refusal
reachable_from g start goal = answered (asked_of g start goal) (reachable_of (g.width * g.height) g.parent (cell_in g start) (cell_in g goal))

unfoldable pub unreachable_from : Grid → Point → Point → Result Bool Refusal
unreachable_from g start goal = answered (asked_of g start goal) (not (reachable_of (g.width * g.height) g.parent (cell_in g start) (cell_in g goal)))

unfoldable pub neighbours_reachable_from : Grid → Bool → Point → Point → Result Bool Refusal
neighbours_reachable_from g diagonal start goal =
    answered (asked_of g start goal) (neighbours_reachable_of g.width g.height diagonal g.parent (cell_in g start) (cell_in g goal))

unfoldable pub neighbours_unreachable_from : Grid → Bool → Point → Point → Result Bool Refusal
neighbours_unreachable_from g diagonal start goal =
    answered (asked_of g start goal) (neighbours_unreachable_of g.width g.height diagonal g.parent (cell_in g start) (cell_in g goal))
