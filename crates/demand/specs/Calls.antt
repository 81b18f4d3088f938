-- The calls that a grid goes through before it is asked: it is made by `new`, with any sides, or read from any map text by `read_map`; any run of the
-- calls that change a grid follows; then its components are generated, under one diagonal setting; then any edits follow, under the same setting.
-- A call that is refused hands the same grid back; refused sides and refused texts come with a new grid of 1 by 1. Assumes nothing.
use Rattle.std.specs.Prelude.{◌≡◌, Bool, true, List, [], ◌∷◌, ℕ}
use Rattle.points.specs.declared.Point.{Point}
use Rattle.grid.specs.declared.Grid.{Grid}
use Rattle.grid.specs.Grids.{new_outcome, set_outcome, rebuild_outcome, update_outcome}
use Rattle.floors.specs.Floors.{read_of}

-- the call that a grid begins with, with any arguments: `new` with the sides, or `read_map` with the bytes of a text
pub data Begin : Type 0 where
  new : ℕ → ℕ → Begin
  read : List ℕ → Begin

-- the grid that it hands back
abbrev pub begun : Begin → Grid
begun (new w h) = (new_outcome w h).grid
begun (read text) = (read_of text).grid

-- a call that changes a grid, with any arguments: the diagonal setting, and for `set` the point and whether it is to be blocked
pub data Call : Type 0 where
  set : Bool → Point → Bool → Call
  rebuild : Bool → Call
  update : Bool → Call

-- the grid that a call hands back, and a run of calls, the first first
abbrev pub called : Grid → Call → Grid
called g (set diagonal p b) = (set_outcome g diagonal p b).grid
called g (rebuild diagonal) = (rebuild_outcome g diagonal).grid
called g (update diagonal) = (update_outcome g diagonal).grid

abbrev pub after : Grid → List Call → Grid
after g [] = g
after g (c ∷ cs) = after (called g c) cs

-- the components of g are generated: by `generate_components`, or by `update` where g is dirty. `update` leaves a clean grid as it is
pub data Rebuilt (diagonal : Bool) (g : Grid) : Grid → Type 0 where
  generated : Rebuilt diagonal g (rebuild_outcome g diagonal).grid
  updated : g.dirty ≡ true → Rebuilt diagonal g (update_outcome g diagonal).grid

-- an edit, and a run of edits under one setting, the first first
pub record Edit : Type 0 where
  pub at : Point
  pub blocked : Bool

abbrev pub after_edits : Bool → Grid → List Edit → Grid
after_edits diagonal g [] = g
after_edits diagonal g (e ∷ es) = after_edits diagonal (set_outcome g diagonal e.at e.blocked).grid es
