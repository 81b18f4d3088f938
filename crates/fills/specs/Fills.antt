-- The tables of a grid as the cells alone give them. w and h, the sides, are parameters; so is each list's length.
-- Assumes nothing.
use Rattle.std.specs.Prelude.{ℕ, zero, suc, ◌+◌, ◌*◌, ◌/◌, ◌%◌, ◌<◌, ◌≡◌, cond, List, ltb, eqb, get_or, set}
use Rattle.masks.specs.Masks.{mask_to, forced_of}
use Rattle.cells.specs.Cells.{cell_to}

-- a list whose entries below n are f's, and the others kept
abbrev pub fill_to : (ℕ → ℕ) → List ℕ → ℕ → List ℕ
fill_to f l zero = l
fill_to f l (suc k) = set (fill_to f l k) k (f k)

-- neighbour bit d of the cell (x, y), by the cells alone: the cell that way is inside and free
unfoldable pub free_bit : ℕ → ℕ → List ℕ → ℕ → ℕ → ℕ → ℕ
free_bit w h blocked x y d = cond (ltb (cell_to w h x y d) (w * h)) (cond (eqb (get_or blocked (cell_to w h x y d) 0) 0) 1 0) 0

unfoldable pub mask_of : ℕ → ℕ → List ℕ → ℕ → ℕ → ℕ
mask_of w h blocked x y = mask_to (free_bit w h blocked x y) 8

-- every neighbour mask is what the blocked cells alone give
unfoldable pub MasksRight : ℕ → ℕ → List ℕ → List ℕ → Type 0
MasksRight w h blocked neighbours = (x y : ℕ) → x < w → y < h → get_or neighbours (y * w + x) 0 ≡ mask_of w h blocked x y

-- the neighbour mask of the cell numbered i
abbrev pub mask_at : ℕ → ℕ → List ℕ → ℕ → ℕ
mask_at w h blocked i = mask_of w h blocked (i % w) (i / w)

-- the tables of a new grid of w by h: each entry of a cell is new, what lies past the cells is kept
abbrev pub new_blocked : ℕ → ℕ → List ℕ → List ℕ
new_blocked w h blocked = fill_to (λ i. 0) blocked (w * h)

abbrev pub new_masks : ℕ → ℕ → List ℕ → List ℕ → List ℕ
new_masks w h blocked neighbours = fill_to (mask_at w h (new_blocked w h blocked)) neighbours (w * h)

abbrev pub new_forced : ℕ → ℕ → List ℕ → List ℕ → List ℕ → List ℕ
new_forced w h blocked neighbours forced = fill_to (λ i. forced_of (get_or (new_masks w h blocked neighbours) i 0)) forced (w * h)

abbrev pub new_parent : ℕ → ℕ → List ℕ → List ℕ
new_parent w h parent = fill_to (λ i. i) parent (w * h)
