-- Directions: steps, turns, the two cardinals of a diagonal, and the sign of a difference.
-- Assumes nothing: these are definitions.
use Rattle.std.specs.Prelude.{Bool, Option, Some, None, [], ◌∷◌, ℕ, zero, suc, ◌+◌, ◌-◌, ◌%◌, eqb, ℤ, pos, negsuc, ◌+ℤ◌, ◌-ℤ◌, get_or}
use Rattle.std.specs.declared.cmp.Ordering.{Ordering}
use Rattle.std.specs.declared.cmp.Ordering.TheVariants.{Less, Equal, Greater}
use Rattle.directions.specs.Offsets.{off_x, off_y}
use Rattle.points.specs.declared.Point.{Point}
use Rattle.points.specs.declared.Direction.{Direction}

-- the offsets of a direction number, read modulo 8
abbrev pub dx_of : ℕ → ℤ
dx_of n = pos (off_x (n % 8)) -ℤ pos 1

abbrev pub dy_of : ℕ → ℤ
dy_of n = pos (off_y (n % 8)) -ℤ pos 1

-- the point one step away
abbrev pub moved : Point → ℕ → Point
moved p n = record { x = p.x +ℤ dx_of n; y = p.y +ℤ dy_of n }

-- the direction of a number
abbrev pub dir : ℕ → Direction
dir n = record { number = n }

-- even directions are cardinal, odd ones diagonal
abbrev pub diagonal_of : ℕ → Bool
diagonal_of n = eqb (n % 2) 1

-- turned by eighths of a turn; the opposite is 4 eighths away
abbrev pub clockwise : Direction → ℕ → Direction
clockwise d k = dir ((d.number + k) % 8)

abbrev pub counterclockwise : Direction → ℕ → Direction
counterclockwise d k = dir ((d.number % 8 + 8 - k % 8) % 8)

-- a diagonal's two cardinals, along x and along y; a cardinal splits into nothing
unfoldable pub split_at : ℕ → Option (Direction × Direction)
split_at k =
    get_or
    (None ∷ Some (dir 2, dir 0) ∷ None ∷ Some (dir 2, dir 4) ∷ None ∷ Some (dir 6, dir 4) ∷ None ∷ Some (dir 6, dir 0) ∷ [])
    k None

abbrev pub split_of : ℕ → Option (Direction × Direction)
split_of n = split_at (n % 8)

-- the sign of a difference: how it compares with 0
abbrev pub sign_of : ℤ → Ordering
sign_of (negsuc n) = Less
sign_of (pos zero) = Equal
sign_of (pos (suc n)) = Greater
