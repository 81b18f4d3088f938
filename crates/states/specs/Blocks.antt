-- What the steps of the quick STATE test say of a block of cells. No rule of document 01: the test as a whole is state_ok.
-- Assumes nothing.
use Rattle.std.specs.Prelude.{◌≡◌, ◌⊎◌, Bool, true, false, List, ℕ, ◌+◌, ◌^◌, ◌<◌, get_or, Option, Some, None}
use Rattle.states.specs.States.{all_to, cell_ok, state_ok}

-- P holds of each of the d numbers from a on
abbrev pub Each : ℕ → ℕ → (ℕ → Type 0) → Type 0
Each a d P = (j : ℕ) → j < d → P (a + j)

-- cell i is its own parent or, where t, has the parent r
abbrev pub Near : List ℕ → ℕ → Bool → ℕ → Type 0
Near p r t i = (get_or p i 0 ≡ i) ⊎ ((get_or p i 0 ≡ r) × (t ≡ true))

-- what next_root's answer says: a cell r, that the cells below b are legal; none, that the state is not
abbrev pub NextRoot : ℕ → List ℕ → List ℕ → ℕ → Option ℕ → Type 0
NextRoot n p k b (Some r) = (r < n) × (r < 2 ^ 16) × (all_to (cell_ok n p k) b ≡ true)
NextRoot n p k b None = state_ok n p k ≡ false
