-- The distance: D = 99 a diagonal step, C = 70 a straight one, E = 41. Assumes nothing: these are definitions.
use Rattle.std.specs.Prelude.{Result, Ok, ℕ, ◌+◌, ◌-◌, ◌*◌, ◌/◌, min, max, Bool, true, false, ◌-ℤ◌, unsigned_abs}
use Rattle.points.specs.Refusals.{of_legal}
use Rattle.points.specs.declared.Point.{Point}
use Rattle.points.specs.declared.Refusal.{Refusal}

-- twice the distance with diagonals, of |dx| and |dy|: E·| |dx|-|dy| | + D·(|dx|+|dy|)
abbrev pub twice : ℕ → ℕ → ℕ
twice m n = 41 * (max m n - min m n) + 99 * (m + n)

-- with diagonals half of that, without 70·(|dx|+|dy|)
abbrev pub cost_of : Bool → ℕ → ℕ → ℕ
cost_of true m n = twice m n / 2
cost_of false m n = 70 * (m + n)

-- the distance between two points
unfoldable pub dist_of : Bool → Point → Point → ℕ
dist_of d a b = cost_of d (unsigned_abs (b.x -ℤ a.x)) (unsigned_abs (b.y -ℤ a.y))

-- the most that two points in range can be apart
abbrev pub farthest : ℕ
farthest = 286580

-- POINT (first, then second), else the distance from a to b
abbrev pub distance_of : Bool → Point → Point → Result ℕ Refusal
distance_of d a b = of_legal a b (Ok (dist_of d a b))
