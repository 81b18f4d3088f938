-- The halving is exact, and how large a distance and a scaled one can be. Assumes nothing.
use Rattle.std.proofs.Common.{◌≡◌, ℕ, ◌+◌, ◌*◌, ◌/◌, ◌≤◌, min, max, Bool, true, false, cond, T, Result, Ok, Err, subst, mul-div_cancel, arith, lit<}
use lib.Ieee.{Float}
use Rattle.points.specs.Plane.{legal}
use Rattle.points.specs.declared.Point.{Point}
use Rattle.points.specs.declared.Refusal.{Refusal}
use Rattle.points.specs.declared.Refusal.TheVariants.{BadPoint}
use Rattle.points.proofs.Signed.{parts, gap_le}
use Rattle.costs.specs.Cost.{twice, cost_of, dist_of, distance_of, farthest}
use Rattle.costs.specs.Scale.{in_bounds, scale_of}
use Rattle.costs.proofs.Product.{scale_le}

pub halves : (m n : ℕ) → twice m n ≡ cost_of true m n * 2
halves m n =
    let e : twice m n ≡ (70 * max m n + 29 * min m n) * 2 = omega arith in
    let f : twice m n / 2 ≡ 70 * max m n + 29 * min m n = rw e (mul-div_cancel (70 * max m n + 29 * min m n) (lit< tt)) in
    omega arith

pub cost_le : (d : Bool) (m n : ℕ) → m ≤ 2047 → n ≤ 2047 → cost_of d m n ≤ farthest
cost_le true m n p q = omega arith
cost_le false m n p q = omega arith

pub dist_le : (d : Bool) (a b : Point) → T (legal a) → T (legal b) → dist_of d a b ≤ farthest
unfolding dist_of
dist_le d a b p q =
    let pa = parts a p in
    let pb = parts b q in
    cost_le d _ _ (gap_le a.x b.x pa.0 pb.0) (gap_le a.y b.y pa.1 pb.1)

-- a distance that is not refused
pub distance_ok : (d : Bool) (a b : Point) (n : ℕ) → distance_of d a b ≡ Ok n → n ≤ farthest
distance_ok d a b n = go (legal a) (legal b) (λ t u. dist_le d a b t u)
  where
    never : (r : Refusal) → ◌≡◌ {A = Result ℕ Refusal} (Err r) (Ok n) → ⊥
    never r e = let z : ◌≡◌ {A = ℕ} 0 1 = cc in omega arith

    kept : (m : ℕ) → ◌≡◌ {A = Result ℕ Refusal} (Ok m) (Ok n) → m ≡ n
    kept m e = cc

    go : (s t : Bool) → (T s → T t → dist_of d a b ≤ farthest) → cond s (cond t (Ok (dist_of d a b)) (Err (BadPoint b))) (Err (BadPoint a)) ≡ Ok n → n ≤ farthest
    go true true f e = subst (λ (k : ℕ). k ≤ farthest) (kept (dist_of d a b) e) (f tt tt)
    go true false f e = absurd (never (BadPoint b) e)
    go false t f e = absurd (never (BadPoint a) e)

-- a scaled distance is at most 16 times the farthest: 4,585,280
pub scaled_le : (n : ℕ) (x : Float) → n ≤ farthest → T (in_bounds x) → scale_of n x ≤ 16 * farthest
scaled_le n x p t = omega (arith, scale_le n (omega arith) x t)
