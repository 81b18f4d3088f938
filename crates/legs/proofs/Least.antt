-- The first bent leg is the least one. Assumes nothing.
use mathlib.Core.Path.{◌≡◌, refl, sym, ap, ◌∙◌}
use mathlib.Core.Bool.{Bool, true, false, cond}
use mathlib.Core.List.{List, [], ◌∷◌}
use Prim.Native.Nat.{ℕ, zero, suc, ◌+◌, ◌*◌, ◌-◌, ◌≤◌, ◌<◌}
use native.Mathlib.Omega.{arith}
use lib.IntN.{ℤ, pos}
use lib.ListN.{length, get_or}
use Rattle.points.specs.declared.Point.{Point}
use Rattle.bends.specs.Bends.{bent_of}
use Rattle.headings.specs.Headings.{heading_of}
use Rattle.pairs.specs.Pairs.{point}
use Rattle.legs.specs.Legs.{bent_from, first_bent_of, bent_leg, Least, FirstIsLeast}
use Rattle.std.specs.Prelude.{Option, Some, None}

-- the least of the legs of w, whose first has the number k
abbrev LeastFrom : ℕ → List ℤ → Option ℕ → Type 0
LeastFrom k w (Some j) = (k ≤ j) × (2 * (j - k) + 3 < length w) × (bent_leg w (j - k + 1) ≡ true) × ((i : ℕ) → i < j - k → bent_leg w (i + 1) ≡ false)
LeastFrom k w None = (i : ℕ) → 2 * i + 3 < length w → bent_leg w (i + 1) ≡ false

-- a waypoint in front: each leg has a number more
later : (a b : ℤ) (w : List ℤ) (i : ℕ) → bent_leg (a ∷ b ∷ w) (suc i + 1) ≡ bent_leg w (i + 1)
later a b w i = λ j. bent_of (heading_of (point (get_or (a ∷ b ∷ w) (from j) (pos 0)) (get_or (a ∷ b ∷ w) (from_y j) (pos 0))) (point (get_or (a ∷ b ∷ w) (to j) (pos 0)) (get_or (a ∷ b ∷ w) (to_y j) (pos 0))))
  where
    from : 2 * (suc i + 1 - 1) ≡ suc (suc (2 * (i + 1 - 1)))
    from = omega arith

    from_y : 2 * (suc i + 1 - 1) + 1 ≡ suc (suc (2 * (i + 1 - 1) + 1))
    from_y = omega arith

    to : 2 * (suc i + 1) ≡ suc (suc (2 * (i + 1)))
    to = omega arith

    to_y : 2 * (suc i + 1) + 1 ≡ suc (suc (2 * (i + 1) + 1))
    to_y = omega arith

module _ (a b : ℤ) (w : List ℤ) (k : ℕ) (first : bent_leg (a ∷ b ∷ w) 1 ≡ false) where
  one_more : (s : Option ℕ) → LeastFrom (k + 1) w s → LeastFrom k (a ∷ b ∷ w) s
  one_more (Some j) (h, room, bent, before) =
      let e : j - k ≡ suc (j - (k + 1)) = omega arith in
      (omega arith, omega arith, ap (λ (n : ℕ). bent_leg (a ∷ b ∷ w) (n + 1)) e ∙ later a b w (j - (k + 1)) ∙ bent, before_it e)
    where
      before_it : j - k ≡ suc (j - (k + 1)) → (i : ℕ) → i < j - k → bent_leg (a ∷ b ∷ w) (i + 1) ≡ false
      before_it e zero l = first
      before_it e (suc i) l = later a b w i ∙ before i (omega arith)
  one_more None none = go
    where
      go : (i : ℕ) → 2 * i + 3 < length (a ∷ b ∷ w) → bent_leg (a ∷ b ∷ w) (i + 1) ≡ false
      go zero l = first
      go (suc i) l = later a b w i ∙ none i (omega arith)

from : (m : List ℤ) (p : Point) (k : ℕ) → LeastFrom k (p.x ∷ p.y ∷ m) (bent_from k p m)
unfolding bent_from
from [] p k = λ i h. absurd (none i h)
  where
    none : (i : ℕ) → 2 * i + 3 < 2 → ⊥
    none i h = omega arith
from (x ∷ []) p k = λ i h. absurd (none i h)
  where
    none : (i : ℕ) → 2 * i + 3 < 3 → ⊥
    none i h = omega arith
from (x ∷ y ∷ m) p k = go (bent_of (heading_of p (point x y))) refl (from m (point x y) (k + 1))
  where
    go : (t : Bool) → bent_of (heading_of p (point x y)) ≡ t → LeastFrom (k + 1) (x ∷ y ∷ m) (bent_from (k + 1) (point x y) m)
        → LeastFrom k (p.x ∷ p.y ∷ x ∷ y ∷ m) (cond t (Some k) (bent_from (k + 1) (point x y) m))
    go true e rest = let z : k - k ≡ 0 = omega arith in (omega arith, omega arith, ap (λ (n : ℕ). bent_leg (p.x ∷ p.y ∷ x ∷ y ∷ m) (n + 1)) z ∙ e, λ i l. absurd (none i l))
      where
        none : (i : ℕ) → i < k - k → ⊥
        none i l = omega arith
    go false e rest = one_more p.x p.y (x ∷ y ∷ m) k e (bent_from (k + 1) (point x y) m) rest

whole : (l : List ℤ) (s : Option ℕ) → LeastFrom 1 l s → Least l s
whole l (Some j) (h, room, bent, before) =
    let e : j - 1 + 1 ≡ j = omega arith in
    (omega arith, omega arith, ap (bent_leg l) (sym e) ∙ bent, go)
  where
    go : (i : ℕ) → 0 < i → i < j → bent_leg l i ≡ false
    go i some l' = let e : i - 1 + 1 ≡ i = omega arith in ap (bent_leg l) (sym e) ∙ before (i - 1) (omega arith)
whole l None none = λ i some room. let e : i - 1 + 1 ≡ i = omega arith in ap (bent_leg l) (sym e) ∙ none (i - 1) (omega arith)

pub first_is_least : FirstIsLeast
unfolding first_bent_of
first_is_least [] = λ i some room. absurd (none i room)
  where
    none : (i : ℕ) → 2 * i + 1 < 0 → ⊥
    none i h = omega arith
first_is_least (x ∷ []) = λ i some room. absurd (none i room)
  where
    none : (i : ℕ) → 2 * i + 1 < 1 → ⊥
    none i h = omega arith
first_is_least (x ∷ y ∷ m) = whole (x ∷ y ∷ m) (bent_from 1 (point x y) m) (from m (point x y) 1)
