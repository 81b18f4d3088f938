-- The direction from one point to another, straight or bent, and how many steps lead there. Assumes nothing: these are definitions.
use Rattle.std.specs.Prelude.{Bool, cond, Option, Some, None, Result, Ok, Err, ℕ, max, eqb, nat_abs, ◌-ℤ◌}
use Rattle.points.specs.Refusals.{of_legal}
use Rattle.points.specs.Compass.{dir, sign_of}
use Rattle.points.specs.declared.Point.{Point}
use Rattle.std.specs.Ordering.{match_ordering}
use Rattle.std.specs.declared.cmp.Ordering.{Ordering}
use Rattle.std.specs.declared.cmp.Ordering.TheVariants.{Less, Equal, Greater}
use Rattle.points.specs.declared.Direction.{Direction}
use Rattle.points.specs.declared.Refusal.{Refusal}
use Rattle.points.specs.declared.Refusal.TheVariants.{Same}
use Rattle.bends.specs.declared.Heading.{Heading}
use Rattle.bends.specs.declared.Heading.TheVariants.{Straight, Bent}
use Rattle.bends.specs.Bends.{in_line}

-- the number of the direction that the signs of the two differences give, 8 where both are zero
abbrev pub compass_of : Ordering → Ordering → ℕ
compass_of Less s = match_ordering s 7 6 5
compass_of Equal s = match_ordering s 0 8 4
compass_of Greater s = match_ordering s 1 2 3

-- the direction that the signs give; none where both are zero
abbrev pub towards_of : Ordering → Ordering → Option Direction
towards_of s t = cond (eqb (compass_of s t) 8) None (Some (dir (compass_of s t)))

-- how many steps lead from a to b: the larger of the two differences
abbrev pub span_of : Point → Point → ℕ
span_of a b = max (nat_abs (b.x -ℤ a.x)) (nat_abs (b.y -ℤ a.y))

-- the direction of a number with so many steps, straight where the points are in line; or SAME, which carries the point p
abbrev pub heading_at : Point → ℕ → Bool → ℕ → Result Heading Refusal
heading_at p n line steps = cond (eqb n 8) (Err (Same p)) (cond line (Ok (Straight (dir n) steps)) (Ok (Bent (dir n) steps)))

-- the direction from a to b by the sign of each coordinate difference; straight where the points are in line, with its length, else bent, with the larger difference
abbrev pub heading_of : Point → Point → Result Heading Refusal
heading_of a b =
    heading_at a (compass_of (sign_of (b.x -ℤ a.x)) (sign_of (b.y -ℤ a.y)))
    (in_line (nat_abs (b.x -ℤ a.x)) (nat_abs (b.y -ℤ a.y)))
    (span_of a b)

-- POINT (first, then second), then SAME
abbrev pub direction_of : Point → Point → Result Heading Refusal
direction_of a b = of_legal a b (heading_of a b)
