-- The cells of a grid by number. w and h, the sides, are parameters. A cell (x, y) has the number y * w + x, and w * h stands for a point outside.
-- Assumes nothing.
use Rattle.std.specs.Prelude.{ℕ, ◌+◌, ◌-◌, ◌*◌, ◌≤◌, ◌<◌, Bool, cond, ◌&&◌, ltb, leb, ℤ, pos, negsuc}
use Rattle.points.specs.Plane as plane
use Rattle.points.specs.declared.Point.{Point}
use Rattle.directions.specs.Offsets.{off_x, off_y}

-- the longest side
abbrev pub most_side : ℕ
most_side = plane.most_side

-- sides from 1 to the longest
unfoldable pub sized_of : ℕ → ℕ → Bool
sized_of w h = leb 1 w && (leb w most_side && (leb 1 h && leb h most_side))

-- a coordinate below the side, or the side itself where it is outside
abbrev pub place_of : ℤ → ℕ → ℕ
place_of (pos n) side = cond (ltb n side) n side
place_of (negsuc n) side = side

-- the number of the cell at a point, or w * h where the point is outside
unfoldable pub cell_of : ℕ → ℕ → Point → ℕ
cell_of w h p =
    cond (ltb (place_of p.x w) w && ltb (place_of p.y h) h) (place_of p.y h * w + place_of p.x w) (w * h)

-- the cell at (p - 1, q - 1), or w * h where that is outside
unfoldable pub cell_at : ℕ → ℕ → ℕ → ℕ → ℕ
cell_at w h p q = cond (leb 1 p && (leb p w && (leb 1 q && leb q h))) ((q - 1) * w + (p - 1)) (w * h)

-- the neighbour of (x, y) in direction d, or w * h
abbrev pub cell_to : ℕ → ℕ → ℕ → ℕ → ℕ → ℕ
cell_to w h x y d = cell_at w h (x + off_x d) (y + off_y d)

-- sides in range
pub record Sides (w h : ℕ) : Type 0 where
  pub some : 0 < w
  pub wide : w ≤ most_side
  pub high : h ≤ most_side

-- sides in range, and a cell inside
pub record Within (w h x y : ℕ) : Type 0 where
  pub wide : w ≤ most_side
  pub high : h ≤ most_side
  pub left : x < w
  pub down : y < h
