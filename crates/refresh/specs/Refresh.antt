-- What one edit does to the masks of a grid, as lists. w and h, the sides, are parameters; so is each list's length.
-- Assumes nothing.
use Rattle.std.specs.Prelude.{ℕ, zero, suc, ◌+◌, ◌-◌, ◌*◌, ◌%◌, ◌^◌, Bool, cond, ◌&&◌, ◌||◌, List, ltb, eqb, get_or, set}
use Rattle.masks.specs.Masks.{bit_at, forced_of}
use Rattle.cells.specs.Cells.{cell_to}

-- an edit blocks a free cell
abbrev pub blocks : ℕ → List ℕ → ℕ → ℕ → Bool → Bool
blocks w blocked x y b = b && eqb (get_or blocked (y * w + x) 0) 0

-- the mask with its bit d set or cleared
unfoldable pub with_bit : ℕ → ℕ → Bool → ℕ
with_bit m d on = m - bit_at m d * 2 ^ d + cond on (2 ^ d) 0

-- the neighbour masks after the cell (x, y) told its neighbour in direction d that it is free or not
unfoldable pub touched : ℕ → ℕ → List ℕ → ℕ → ℕ → Bool → ℕ → List ℕ
touched w h neighbours x y on d =
    cond (ltb (cell_to w h x y d) (w * h))
    (set neighbours (cell_to w h x y d) (with_bit (get_or neighbours (cell_to w h x y d) 0) ((d + 4) % 8) on)) neighbours

-- the same for the directions below n, in order
abbrev pub touched_to : ℕ → ℕ → List ℕ → ℕ → ℕ → Bool → ℕ → List ℕ
touched_to w h neighbours x y on zero = neighbours
touched_to w h neighbours x y on (suc n) = touched w h (touched_to w h neighbours x y on n) x y on n

-- the neighbourhood: every direction with diagonals, the cardinal ones without
abbrev pub allowed_of : Bool → ℕ → Bool
allowed_of diagonal d = diagonal || eqb (d % 2) 0

-- the forced masks after that of the neighbour in direction d was worked out again, where d is of the neighbourhood
unfoldable pub fixed : ℕ → ℕ → Bool → List ℕ → List ℕ → ℕ → ℕ → ℕ → List ℕ
fixed w h diagonal neighbours forced x y d =
    cond (allowed_of diagonal d && ltb (cell_to w h x y d) (w * h))
    (set forced (cell_to w h x y d) (forced_of (get_or neighbours (cell_to w h x y d) 0))) forced

abbrev pub fixed_to : ℕ → ℕ → Bool → List ℕ → List ℕ → ℕ → ℕ → ℕ → List ℕ
fixed_to w h diagonal neighbours forced x y zero = forced
fixed_to w h diagonal neighbours forced x y (suc n) = fixed w h diagonal neighbours (fixed_to w h diagonal neighbours forced x y n) x y n

-- the cell's own, and then its neighbours'
unfoldable pub fixed_all : ℕ → ℕ → Bool → List ℕ → List ℕ → ℕ → ℕ → List ℕ
fixed_all w h diagonal neighbours forced x y = fixed_to w h diagonal neighbours (set forced (y * w + x) (forced_of (get_or neighbours (y * w + x) 0))) x y 8

-- what an edit leaves in the two tables of masks
unfoldable pub masks_after : ℕ → ℕ → List ℕ → ℕ → ℕ → Bool → List ℕ
masks_after w h neighbours x y on = touched_to w h neighbours x y on 8

abbrev pub forced_after : ℕ → ℕ → Bool → List ℕ → List ℕ → ℕ → ℕ → Bool → List ℕ
forced_after w h diagonal neighbours forced x y on = fixed_all w h diagonal (masks_after w h neighbours x y on) forced x y
