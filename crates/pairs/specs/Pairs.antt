-- Lists of points: a list of numbers, x and y in turn. Assumes nothing: these are definitions.
use Rattle.std.specs.Prelude.{◌≡◌, cond, eqb, Option, Some, None, Result, Err, length, List, [], ◌∷◌, ℕ, ◌+◌, ◌%◌, ℤ, pos, get_or}
use Rattle.points.specs.Plane.{legal}
use Rattle.points.specs.declared.Point.{Point}
use Rattle.points.specs.declared.Refusal.{Refusal}
use Rattle.points.specs.declared.Refusal.TheVariants.{List as ListBroken, BadPoint}

abbrev pub point : ℤ → ℤ → Point
point x y = record { x = x; y = y }

-- the point whose numbers stand at i and after it
abbrev pub point_at : List ℤ → ℕ → Point
point_at l i = point (get_or l i (pos 0)) (get_or l (i + 1) (pos 0))

-- a list of points has both numbers of each
abbrev pub Even : ℕ → Type 0
Even n = n % 2 ≡ 0

-- the first point out of coordinate range
unfoldable pub first_bad : List ℤ → Option Point
first_bad [] = None
first_bad (x ∷ []) = None
first_bad (x ∷ y ∷ l) = cond (legal (point x y)) (first_bad l) (Some (point x y))

-- POINT, where there is a point to blame; else the answer r
abbrev pub blamed_of : {X : Type 0} → Option Point → Result X Refusal → Result X Refusal
blamed_of (Some p) r = Err (BadPoint p)
blamed_of None r = r

-- LIST, where there is no number or an odd count of numbers; POINT with the first point out of range; else the answer r
abbrev pub taken_of : {X : Type 0} → List ℤ → Result X Refusal → Result X Refusal
taken_of l r = cond (eqb (length l) 0) (Err ListBroken) (cond (eqb (length l % 2) 1) (Err ListBroken) (blamed_of (first_bad l) r))
