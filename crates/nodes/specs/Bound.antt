-- What bounds the costs of a search: the history of a cost, and the longest edge. Assumes nothing.
use Rattle.std.specs.Prelude.{◌≡◌, List, ℕ, zero, suc, ◌+◌, ◌-◌, ◌*◌, ◌<◌, ◌≤◌, length, get_or}
use Rattle.nodes.specs.Nodes.{Nodes, filled}

-- n edges in a row
unfoldable pub times : ℕ → ℕ → ℕ
times edge zero = 0
times edge (suc n) = times edge n + edge

-- the cost k has a history: the marked nodes, each with a recorded cost of at most k, and an edge for each of them but the first
pub record Hist (edge k : ℕ) (s : Nodes) : Type 0 where
  pub marks : List ℕ
  pub size : length marks ≡ length s.number
  pub known : (j : ℕ) → (get_or marks j 0 ≡ 0 → ⊥) → j < length s.place
  pub above : (j : ℕ) → (get_or marks j 0 ≡ 0 → ⊥) → get_or s.cost j 0 ≤ k
  pub paid : k + edge ≤ times edge (filled marks)

-- the longest edge: an expansion and its re-expansions, each a jump across the grid at 99 a step
abbrev pub edge_of : ℕ → ℕ → ℕ
edge_of side depth = (depth + 1) * ((side - 1) * 99)

-- the cells, and one more place for an outside start
abbrev pub places_of : ℕ → ℕ
places_of side = side * side + 1
