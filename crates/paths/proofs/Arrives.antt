-- A walk of as many steps as the longer difference ends at its waypoint. Assumes nothing.
use mathlib.Core.Path.{◌≡◌, refl, sym, ap, ◌∙◌}
use Prim.Native.Nat.{ℕ, zero, suc, ◌+◌, ◌-◌, ◌*◌, ◌≤◌}
use native.Mathlib.Omega.{arith}
use lib.IntN.{ℤ, pos, nat_abs, ◌-ℤ◌}
use lib.ListN.{get_or}
use Rattle.points.specs.declared.Point.{Point}
use Rattle.points.proofs.Halves.{nearer, same, sub_law, abs_is, apart}
use Rattle.headings.specs.Headings.{span_of}
use Rattle.paths.specs.Walks.{closer_to, next_to, walk_of}
use Rattle.paths.proofs.Laws.{step_is}

-- the point after n steps
abbrev pub after : ℕ → Point → Point → Point
after zero p q = p
after (suc n) p q = after n (next_to p q) q

-- a coordinate after n steps
abbrev along : ℕ → ℤ → ℤ → ℤ
along zero a b = a
along (suc n) a b = along n (closer_to a b) b

pub closes : (a b : ℤ) → nat_abs (b -ℤ closer_to a b) ≡ nat_abs (b -ℤ a) - 1
closes a b = ap (λ (z : ℤ). nat_abs (b -ℤ z)) (sym (step_is a (b -ℤ a))) ∙ nearer a b

reaches : (n : ℕ) (a b : ℤ) → nat_abs (b -ℤ a) ≤ n → along n a b ≡ b
reaches zero a b h =
    let d = b -ℤ a in
    same a b (omega (arith, sub_law b a, abs_is d, apart a, apart b)) (omega (arith, sub_law b a, abs_is d, apart a, apart b))
reaches (suc n) a b h = reaches n (closer_to a b) b (omega (arith, closes a b))

apart_along : (n : ℕ) (p q : Point) → after n p q ≡ record { x = along n p.x q.x; y = along n p.y q.y }
apart_along zero p q = refl
apart_along (suc n) p q = apart_along n (next_to p q) q

-- the walk to a waypoint ends there
pub arrives : (p q : Point) → after (span_of p q) p q ≡ q
arrives p q =
    let n = span_of p q in
    apart_along n p q
    ∙ (λ i. record { x = reaches n p.x q.x (omega arith) i; y = reaches n p.y q.y (omega arith) i })

-- and the last point of the walk is the one after all its steps
pub walk_last : (n : ℕ) (p q : Point) → (get_or (walk_of (suc n) p q) (2 * n) (pos 0) ≡ (after (suc n) p q).x) × (get_or (walk_of (suc n) p q) (2 * n + 1) (pos 0) ≡ (after (suc n) p q).y)
unfolding walk_of
walk_last zero p q = (refl, refl)
walk_last (suc n) p q =
    let k = walk_last n (next_to p q) q in
    let e : 2 * suc n ≡ suc (suc (2 * n)) = omega arith in
    let f : 2 * suc n + 1 ≡ suc (suc (2 * n + 1)) = omega arith in
    (rw e k.0, rw f k.1)
