-- Points of lists and of cells: what the machine's signed numbers are, and when two are the same. Assumes nothing.
use mathlib.Core.Path.{◌≡◌, refl, sym, ap, ◌∙◌}
use mathlib.Core.Bool.{Bool, true, false, ◌&&◌, true≢false}
use Prim.Native.Nat.{ℕ, ◌/◌, ◌%◌, ◌<◌}
use native.Mathlib.Nat.{mod-lt}
use native.Mathlib.Omega.{arith}
use borrow.Author.Tests.{eq-eqb, ne_eqb, le-leb}
use lib.Dec.{T}
use lib.IntN.{ℤ, pos, negsuc}
use Rattle.std.proofs.Common.{int_eq}
use Rattle.std.specs.Bool.{Decides}
use Rattle.std.proofs.lemmas.Bool.Decides.{Decides-int_eq}
use Rattle.points.specs.Plane.{in_range, legal}
use Rattle.goals.specs.Goals.{most_side, Numbered, point_of, both, same_z, same_point}
use Rattle.points.specs.declared.Point.{Point}

same_self : (a : ℤ) → same_z a a ≡ true
same_self (pos a) = eq-eqb a a refl
same_self (negsuc a) = eq-eqb a a refl

same_yes : (a b : ℤ) → a ≡ b → same_z a b ≡ true
same_yes a b e = ap (same_z a) (sym e) ∙ same_self a

same_no : (a b : ℤ) → (a ≡ b → ⊥) → same_z a b ≡ false
same_no (pos a) (pos b) f = ne_eqb a b (λ e. f (ap pos e))
same_no (pos a) (negsuc b) f = refl
same_no (negsuc a) (pos b) f = refl
same_no (negsuc a) (negsuc b) f = ne_eqb a b (λ e. f (ap negsuc e))

-- the test of two points by `==`
int_same : (a b : ℤ) → int_eq a b ≡ same_z a b
int_same a b = go (int_eq a b) (Decides-int_eq a b)
  where
    go : (t : Bool) → Decides t (a ≡ b) → t ≡ same_z a b
    go true f = sym (same_yes a b (f.0 refl))
    go false f = sym (same_no a b (λ e. true≢false (sym (f.1 e))))

pub point_eq : (a b : Point) → int_eq a.x b.x && int_eq a.y b.y ≡ same_point a b
point_eq a b = both_and (int_eq a.x b.x) (same_z a.x b.x) (int_eq a.y b.y) (same_z a.y b.y) (int_same a.x b.x) (int_same a.y b.y)
  where
    go : (s t : Bool) → s && t ≡ both s t
    go true t = refl
    go false t = refl

    both_and : (s s' t t' : Bool) → s ≡ s' → t ≡ t' → s && t ≡ both s' t'
    both_and s s' t t' e f = go s t ∙ (λ i. both (e i) (f i))

-- a cell's point is in range
in_side : (n : ℕ) → n < most_side → in_range (pos n) ≡ true
in_side n h = le-leb n 1023 (omega arith)

pub numbered_legal : (w c : ℕ) → Numbered w c → T (legal (point_of w c))
numbered_legal w c n =
    let x : in_range (pos (c % w)) ≡ true = in_side (c % w) (omega (arith, mod-lt c n.some)) in
    let y : in_range (pos (c / w)) ≡ true = in_side (c / w) n.low in
    rw (x, y) tt
