-- The goals of a search: their kinds, the goal test, and the estimate. Assumes nothing: these are definitions.
use Rattle.std.specs.Prelude.{cond, Option, Some, None, Result, Ok, Err, Bool, true, false, List, ℕ, zero, suc, ◌+◌, ◌*◌, ◌/◌, ◌%◌, ◌<◌, ◌≤◌, min, T, eqb, leb, ltb, ℤ, pos, negsuc, length, get_or}
use Rattle.points.specs.Plane as plane
use Rattle.points.specs.Plane.{legal}
use Rattle.points.specs.declared.Point.{Point}
use Rattle.points.specs.declared.Refusal.{Refusal}
use Rattle.points.specs.declared.Refusal.TheVariants as refusal
use Rattle.pairs.specs.Pairs as pairs
use Rattle.costs.specs.Cost.{dist_of}
use Rattle.costs.specs.Scale.{in_bounds, scale_of}
use Rattle.goals.specs.declared.Goal.{Goal}
use Rattle.goals.specs.declared.Goal.TheVariants.{Exact, Near, Several}
use Rattle.goals.specs.declared.Plan.{Plan}

-- the longest side of a grid, and the most goals of a search
abbrev pub most_side : ℕ
most_side = plane.most_side

abbrev pub most_goals : ℕ
most_goals = 64

abbrev pub both : Bool → Bool → Bool
both true b = b
both false b = false

abbrev pub either : Bool → Bool → Bool
either true b = true
either false b = b

-- the point of the cell numbered c
abbrev pub point_of : ℕ → ℕ → Point
point_of w c = record { x = pos (c % w); y = pos (c / w) }

-- a cell number of a grid that is w wide
pub record Numbered (w c : ℕ) : Type 0 where
  pub some : 0 < w
  pub wide : w ≤ most_side
  pub low : c / w < most_side

-- two numbers are the same
abbrev pub same_z : ℤ → ℤ → Bool
same_z (pos a) (pos b) = eqb a b
same_z (pos a) (negsuc b) = false
same_z (negsuc a) (pos b) = false
same_z (negsuc a) (negsuc b) = eqb a b

abbrev pub same_point : Point → Point → Bool
same_point a b = both (same_z a.x b.x) (same_z a.y b.y)

-- point number i of a list of pairs
unfoldable pub point_at : List ℤ → ℕ → Point
point_at gs i = pairs.point_at gs (2 * i)

-- GOALS: no goal, an odd count of numbers, or more than 64; n is how many numbers the list has
abbrev pub count_of : ℕ → Result ℕ Refusal
count_of n =
    cond (eqb n 0) (Err refusal.Goals)
    (cond (eqb (n % 2) 1) (Err refusal.Goals)
    (cond (ltb most_goals (n / 2)) (Err refusal.Goals) (Ok (n / 2))))

-- the least distance from a point to one of the first n goals
unfoldable pub least_to : List ℤ → Bool → Point → ℕ → ℕ
least_to gs d p zero = dist_of d p (point_at gs 0)
least_to gs d p (suc n) = min (least_to gs d p n) (dist_of d p (point_at gs n))

-- a point is one of n goals from number i on
unfoldable pub among_to : List ℤ → Point → ℕ → ℕ → Bool
among_to gs p zero i = false
among_to gs p (suc n) i = either (same_point p (point_at gs i)) (among_to gs p n (i + 1))

-- a point is a goal: the point itself, any point whose unscaled distance is at most 99, or one of several
abbrev pub is_goal : List ℤ → Bool → Goal → Point → Bool
is_goal gs d (Exact q) p = same_point p q
is_goal gs d (Near q) p = leb (dist_of d p q) 99
is_goal gs d (Several n) p = among_to gs p n 0

unfoldable pub goal_at : List ℤ → Plan → Point → Bool
goal_at gs p at = is_goal gs p.settings.diagonal p.goal at

-- the unscaled distance to the goal, or the least of several
abbrev pub left_to : List ℤ → Bool → Goal → Point → ℕ
left_to gs d (Exact q) p = dist_of d p q
left_to gs d (Near q) p = dist_of d p q
left_to gs d (Several n) p = least_to gs d p n

unfoldable pub left_of : List ℤ → Plan → Point → ℕ
left_of gs p at = left_to gs p.settings.diagonal p.goal at

-- the estimate of what is left: with several goals, the least unscaled value is scaled
unfoldable pub guess_of : List ℤ → Plan → Point → ℕ
guess_of gs p at = scale_of (left_of gs p at) p.settings.factor

-- the first n pairs of a list are points in range
pub record Legals (gs : List ℤ) (n : ℕ) : Type 0 where
  pub long : 2 * n ≤ length gs
  pub each : (i : ℕ) → i < n → T (legal (point_at gs i))

-- the goals are points in range, and there is one
abbrev pub Placed : List ℤ → Goal → Type 0
Placed gs (Exact q) = T (legal q)
Placed gs (Near q) = T (legal q)
Placed gs (Several n) = (1 ≤ n) × Legals gs n

-- a plan whose factor and goals are in range
pub record Aimed (gs : List ℤ) (p : Plan) : Type 0 where
  pub factor : T (in_bounds p.settings.factor)
  pub placed : Placed gs p.goal
