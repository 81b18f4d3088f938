-- The first bent leg of a list of waypoints: a list of numbers, x and y in turn. Some k goes from waypoint k to waypoint k + 1.
-- Assumes nothing: these are definitions and a statement.
use Rattle.std.specs.Prelude.{◌≡◌, Bool, true, false, cond, Option, Some, None, List, [], ◌∷◌, ℕ, ◌+◌, ◌*◌, ◌-◌, ◌<◌, ℤ, length}
use Rattle.points.specs.declared.Point.{Point}
use Rattle.bends.specs.Bends.{bent_of}
use Rattle.headings.specs.Headings.{heading_of}
use Rattle.pairs.specs.Pairs.{point, point_at}

-- the leg's number, 0 for none
abbrev pub leg_number : Option ℕ → ℕ
leg_number (Some k) = k
leg_number None = 0

-- the first bent leg of those that go on from waypoint k, the point p
unfoldable pub bent_from : ℕ → Point → List ℤ → Option ℕ
bent_from k p [] = None
bent_from k p (x ∷ []) = None
bent_from k p (x ∷ y ∷ l) = cond (bent_of (heading_of p (point x y))) (Some k) (bent_from (k + 1) (point x y) l)

unfoldable pub first_bent_of : List ℤ → Option ℕ
unfolding bent_from
first_bent_of [] = None
first_bent_of (x ∷ []) = None
first_bent_of (x ∷ y ∷ l) = bent_from 1 (point x y) l

-- whether leg k is bent
abbrev pub bent_leg : List ℤ → ℕ → Bool
bent_leg l k = bent_of (heading_of (point_at l (2 * (k - 1))) (point_at l (2 * k)))

-- a leg of the list is bent, and none before it is; or none is
abbrev pub Least : List ℤ → Option ℕ → Type 0
Least l (Some k) = (0 < k) × (2 * k + 1 < length l) × (bent_leg l k ≡ true) × ((j : ℕ) → 0 < j → j < k → bent_leg l j ≡ false)
Least l None = (j : ℕ) → 0 < j → 2 * j + 1 < length l → bent_leg l j ≡ false

-- LAW: the first bent leg is the least one
abbrev pub FirstIsLeast : Type 0
FirstIsLeast = (l : List ℤ) → Least l (first_bent_of l)
