-- The estimate is below 2 ^ 23: a distance between points in range, scaled by at most 16. Assumes nothing.
use mathlib.Core.Bool.{Bool}
use mathlib.Core.List.{List}
use Prim.Native.Nat.{ℕ, zero, suc, ◌^◌, ◌<◌, ◌≤◌}
use native.Mathlib.Omega.{arith}
use lib.Dec.{T}
use lib.IntN.{ℤ}
use Rattle.points.specs.declared.Point.{Point}
use Rattle.points.specs.Plane.{legal}
use Rattle.costs.specs.Cost.{farthest}
use Rattle.costs.proofs.Bounds.{dist_le, scaled_le}
use Rattle.goals.specs.declared.Goal.{Goal}
use Rattle.goals.specs.declared.Goal.TheVariants.{Exact, Near, Several}
use Rattle.goals.specs.declared.Plan.{Plan}
use Rattle.goals.specs.Goals.{point_at, least_to, left_to, left_of, guess_of, Legals, Placed, Aimed}

module _ (gs : List ℤ) (d : Bool) (at : Point) (l : T (legal at)) where
  least_le : (n m : ℕ) → 1 ≤ n → Legals gs n → least_to gs d at m ≤ farthest
  unfolding least_to
  least_le n zero h k = dist_le d at (point_at gs 0) l (k.each 0 h)
  least_le n (suc m) h k = let i = least_le n m h k in omega (arith, i)

  left_le : (g : Goal) → Placed gs g → left_to gs d g at ≤ farthest
  left_le (Exact q) k = dist_le d at q l k
  left_le (Near q) k = dist_le d at q l k
  left_le (Several n) k = least_le n n k.0 k.1

pub guess_small : (gs : List ℤ) (p : Plan) (at : Point) → Aimed gs p → T (legal at) → guess_of gs p at < 2 ^ 23
unfolding guess_of left_of
guess_small gs p at a l =
    let b = left_le gs p.settings.diagonal at l p.goal a.placed in
    omega (arith, scaled_le (left_to gs p.settings.diagonal p.goal at) p.settings.factor b a.factor)
