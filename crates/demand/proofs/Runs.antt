-- Runs of edits of tables: what is proved of them, and what the demand on grids is drawn from. Assumes nothing.
use mathlib.Core.Path.{◌≡◌}
use mathlib.Core.Bool.{Bool, true, not, ◌&&◌}
use mathlib.Core.List.{List, [], ◌∷◌}
use Prim.Native.Nat.{ℕ, ◌*◌, ◌<◌}
use Rattle.components.specs.Components.{Same}
use Rattle.fills.specs.Fills.{MasksRight}
use Rattle.tables.specs.Tables.{Tables, edit_of}
use Rattle.demand.specs.Walks.{Walk}
use Rattle.demand.specs.Demand3.{ForcedRight}

-- an edit of a cell of the grid: what is accepted. A refused call changes nothing
pub record Edit (w h : ℕ) : Type 0 where
  pub x : ℕ
  pub y : ℕ
  pub left : x < w
  pub down : y < h
  pub blocked : Bool

abbrev pub edited : (w h : ℕ) → Bool → Tables → Edit w h → Tables
edited w h diagonal t e = edit_of w h diagonal t e.x e.y e.blocked

-- after a list of edits under one setting, the first first
abbrev pub after_edits : (w h : ℕ) → Bool → Tables → List (Edit w h) → Tables
after_edits w h diagonal t [] = t
after_edits w h diagonal t (e ∷ es) = after_edits w h diagonal (edited w h diagonal t e) es

-- none of the edits carries "blocked"
abbrev pub none_blocks : (w h : ℕ) → List (Edit w h) → Bool
none_blocks w h [] = true
none_blocks w h (e ∷ es) = not e.blocked && none_blocks w h es

-- the four clauses, for the tables t after the edits es
pub record Clauses (w h : ℕ) (diagonal : Bool) (es : List (Edit w h)) (t : Tables) : Type 0 where
  pub masks : MasksRight w h t.blocked t.masks
  pub forced : ForcedRight w h t.blocked t.forced
  pub joined : (a c : ℕ) → Walk w h t.blocked diagonal a c → Same t.parent a c
  pub kept : (more : List (Edit w h)) (a c : ℕ) → a < w * h → c < w * h → Same t.parent a c → Same (after_edits w h diagonal t more).parent a c
  pub parted : none_blocks w h es ≡ true → (a c : ℕ) → a < w * h → c < w * h → Same t.parent a c → Walk w h t.blocked diagonal a c
