-- The legal states of a union-find, as document 01's STATE tests them, over two lists: p, the cells' parents, and k, their ranks. A cell is a number below n.
-- Assumes nothing.
use Rattle.std.specs.Prelude.{Bool, true, ◌&&◌, ◌||◌, List, ℕ, zero, suc, get_or, eqb, ltb, leb}

-- the test f passes at each number below n
abbrev pub all_to : (ℕ → Bool) → ℕ → Bool
all_to f zero = true
all_to f (suc n) = all_to f n && f n

-- STATE's test of a cell: its rank is at most 200, and its parent is itself or a cell of higher rank
unfoldable pub cell_ok : ℕ → List ℕ → List ℕ → ℕ → Bool
cell_ok n p k i =
    leb (get_or k i 0) 200 && (eqb (get_or p i 0) i || (ltb (get_or p i 0) n && ltb (get_or k i 0) (get_or k (get_or p i 0) 0)))

-- of the first n cells: true exactly of a legal state (state_of and of_state of proofs/State)
abbrev pub state_ok : ℕ → List ℕ → List ℕ → Bool
state_ok n p k = all_to (cell_ok n p k) n
