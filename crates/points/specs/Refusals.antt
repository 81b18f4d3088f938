-- The refusals' numbers, with the values that they carry. Assumes nothing: these are definitions.
use Rattle.std.specs.Prelude.{cond, Result, Ok, Err, ℕ, pos}
use Rattle.points.specs.Plane.{legal}
use Rattle.points.specs.declared.Point.{Point}
use Rattle.points.specs.declared.Refusal.{Refusal}
use Rattle.points.specs.declared.Refusal.TheVariants.{Size, State, Setting, NoRoute, Goals, Exhausted, Depth, Fringe, Pops, Room, Same, Map, List, BadPoint}

-- a refusal as plain numbers: its own, the line of MAP, and the point of SAME and POINT; 0 where it carries none
pub record Told : Type 0 where
  pub number : ℕ
  pub line : ℕ
  pub point : Point

-- a number alone
abbrev pub bare : ℕ → Told
bare n = record { number = n; line = 0; point = record { x = pos 0; y = pos 0 } }

-- a number with the point concerned
abbrev pub pointed : ℕ → Point → Told
pointed n p = record { number = n; line = 0; point = p }

-- a number with a line
abbrev pub lined : ℕ → ℕ → Told
lined n l = record { number = n; line = l; point = record { x = pos 0; y = pos 0 } }

-- the table of refusal numbers; MAP carries a line number, POINT and SAME the point concerned
abbrev pub told_of : Refusal → Told
told_of Size = bare 1
told_of State = bare 2
told_of Setting = bare 3
told_of NoRoute = bare 4
told_of Goals = bare 5
told_of Exhausted = bare 6
told_of Depth = bare 7
told_of Fringe = bare 8
told_of Pops = bare 9
told_of Room = bare 10
told_of (Same p) = pointed 11 p
told_of (Map n) = lined 12 n
told_of List = bare 13
told_of (BadPoint p) = pointed 14 p

-- POINT, where a point is out of range; else the point
abbrev pub checked_of : Point → Result Point Refusal
checked_of p = cond (legal p) (Ok p) (Err (BadPoint p))

-- POINT (first, then second), else the answer r
abbrev pub of_legal : {X : Type 0} → Point → Point → Result X Refusal → Result X Refusal
of_legal a b r = cond (legal a) (cond (legal b) r (Err (BadPoint b))) (Err (BadPoint a))
