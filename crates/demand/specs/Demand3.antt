-- Demand 3: what the masks and the components of a grid are worth. Calls.antt says how the grid was made, rebuilt and edited; Walks.antt says what a
-- walk is, over the blocked cells alone. After the rebuild and after each edit:
--   (a) every neighbour mask and every forced mask is what the blocked cells alone give;
--   (b) cells that a walk over free cells joins share a component;
--   (c) cells that share a component go on sharing it, whatever is edited, until the next rebuild;
--   (d) if none of the edits carried "blocked", cells that share a component are joined by a walk over free cells.
-- Assumes nothing.
use Rattle.std.specs.Prelude.{◌≡◌, Bool, true, not, ◌&&◌, List, [], ◌∷◌, ℕ, ◌+◌, ◌*◌, ◌<◌, get_or}
use Rattle.masks.specs.Masks.{forced_of}
use Rattle.components.specs.Components.{root_of}
use Rattle.fills.specs.Fills.{MasksRight, mask_of}
use Rattle.grid.specs.declared.Grid.{Grid}
use Rattle.demand.specs.Walks.{Walk}
use Rattle.demand.specs.Calls.{Begin, begun, Call, after, Rebuilt, Edit, after_edits}

-- none of the edits carries "blocked"
abbrev pub none_blocks : List Edit → Bool
none_blocks [] = true
none_blocks (e ∷ es) = not e.blocked && none_blocks es

-- the component of the cell numbered a: what `get_component` answers
abbrev pub component_in : Grid → ℕ → ℕ
component_in g a = root_of g.parent a

-- a and c share a component, by what is said to be the component of a cell
abbrev pub Share : (Grid → ℕ → ℕ) → Grid → ℕ → ℕ → Type 0
Share component g a c = component g a ≡ component g c

-- every forced mask is what the blocked cells alone give
unfoldable pub ForcedRight : ℕ → ℕ → List ℕ → List ℕ → Type 0
ForcedRight w h blocked forced = (x y : ℕ) → x < w → y < h → get_or forced (y * w + x) 0 ≡ forced_of (mask_of w h blocked x y)

-- the four clauses, for the grid g after the edits es
pub record Clauses (component : Grid → ℕ → ℕ) (w h : ℕ) (diagonal : Bool) (es : List Edit) (g : Grid) : Type 0 where
  pub masks : MasksRight w h g.blocked g.neighbours
  pub forced : ForcedRight w h g.blocked g.forced
  pub joined : (a c : ℕ) → Walk w h g.blocked diagonal a c → Share component g a c
  pub kept : (more : List Edit) (a c : ℕ) → a < w * h → c < w * h → Share component g a c → Share component (after_edits diagonal g more) a c
  pub parted : none_blocks es ≡ true → (a c : ℕ) → a < w * h → c < w * h → Share component g a c → Walk w h g.blocked diagonal a c

-- THE DEMAND, for every size and every map text, every run of calls, both settings, both ways to rebuild, and every run of edits after the rebuild
abbrev pub DemandOf : (Grid → ℕ → ℕ) → Type 0
DemandOf component = (s : Begin) (calls : List Call) (diagonal : Bool) (g : Grid) → Rebuilt diagonal (after (begun s) calls) g
    → (es : List Edit) → Clauses component (begun s).width (begun s).height diagonal es (after_edits diagonal g es)

abbrev pub Demand3 : Type 0
Demand3 = DemandOf component_in

-- what it shuts out: one component for all, by (d), and singletons for all, by (b)
abbrev pub OneForAll : Type 0
OneForAll = DemandOf (λ g a. 0) → ⊥

abbrev pub Singletons : Type 0
Singletons = DemandOf (λ g a. a) → ⊥
