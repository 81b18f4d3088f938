-- How an answer crosses the boundary as one number: below 2^32 the value; else 2^32 times the refusal's number. Where a call takes two points,
-- POINT comes with 256 more if it is about the first and 512 more if it is about the second. Assumes nothing: these are definitions.
use Rattle.std.specs.Prelude.{Result, Ok, Err, Bool, true, false, cond, not, ℕ, ◌+◌, ◌*◌, eqb, Float, ℤ}
use Rattle.points.specs.Plane.{legal}
use Rattle.points.specs.Refusals.{Told, told_of}
use Rattle.points.specs.declared.Point.{Point}
use Rattle.points.specs.declared.Refusal.{Refusal}
use Rattle.bends.specs.declared.Heading.{Heading}
use Rattle.bends.specs.declared.Heading.TheVariants.{Straight, Bent}
use Rattle.costs.specs.declared.Settings.{Settings}

-- a flag is 0 or not
abbrev pub flag_of : ℕ → Bool
flag_of b = not (eqb b 0)

abbrev pub point_of : ℤ → ℤ → Point
point_of x y = record { x = x; y = y }

-- a refusal of a call on two points, of which a is the first: POINT, 14, says which of them it is about
abbrev pub refused_with : Told → Point → ℕ
refused_with t a = cond (eqb t.number 14) (cond (legal a) (4294967296 * (t.number + 512)) (4294967296 * (t.number + 256))) (4294967296 * t.number)

-- the direction, 8 more where it is bent, and 16 times the steps
abbrev pub heading_packed : Result Heading Refusal → Point → ℕ
heading_packed (Ok (Straight d n)) a = 16 * n + d.number
heading_packed (Ok (Bent d n)) a = 16 * n + 8 + d.number
heading_packed (Err r) a = refused_with (told_of r) a

abbrev pub measure_packed : Result ℕ Refusal → Point → ℕ
measure_packed (Ok c) a = c
measure_packed (Err r) a = refused_with (told_of r) a

-- a refusal as an answer
abbrev pub refused_as : Refusal → ℕ
refused_as r = 4294967296 * (told_of r).number

-- yes and no as an answer
abbrev pub mark_of : Bool → ℕ
mark_of true = 1
mark_of false = 0

-- the factor, the two flags and the three limits
abbrev pub settings_of : Float → Bool → Bool → ℕ → ℕ → ℕ → Settings
settings_of factor diagonal improved depth pops fringe =
    record { factor = factor; diagonal = diagonal; improved = improved; depth = depth; pops = pops; fringe = fringe }
