-- The scaled distance, in the logic's account of IEEE 754. Assumes nothing: these are definitions.
use Rattle.std.specs.Prelude.{cond, Result, Ok, Err, ℕ, Bool, false, ◌&&◌, pos, Float}
use Rattle.std.specs.Float.{fin, binary32}
use Rattle.std.specs.Float.Ieee.{le, mul, of_int, to_unsigned}
use Rattle.points.specs.declared.Point.{Point}
use Rattle.points.specs.Refusals.{of_legal}
use Rattle.points.specs.declared.Refusal.{Refusal}
use Rattle.points.specs.declared.Refusal.TheVariants.{Setting}
use Rattle.costs.specs.Cost.{dist_of}

-- 0, 1 and 16 as floats
abbrev pub none : Float
none = fin false 0 (pos 0)

abbrev pub one : Float
one = fin false 1 (pos 0)

abbrev pub sixteen : Float
sixteen = fin false 1 (pos 4)

-- the factor is from 0 to 16, negative zero included, NaN and infinity not
unfoldable pub in_bounds : Float → Bool
in_bounds x = le none x && le x sixteen

-- as f32 times the factor, rounded once, then cut towards zero
unfoldable pub scale_of : ℕ → Float → ℕ
scale_of n x = to_unsigned 32 (mul binary32 (of_int binary32 (pos n)) x)

-- SETTING, then POINT (first, then second), else the scaled distance
abbrev pub scaled_of : Bool → Float → Point → Point → Result ℕ Refusal
scaled_of d x a b = cond (in_bounds x) (of_legal a b (Ok (scale_of (dist_of d a b) x))) (Err Setting)
