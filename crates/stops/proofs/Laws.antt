-- Laws of cells and their places, and of the tests on them. Assumes nothing.
use mathlib.Core.Path.{◌≡◌, refl, sym}
use mathlib.Core.Bool.{Bool, true, false, true≢false}
use mathlib.Core.List.{List}
use Prim.Native.Nat.{ℕ, ◌+◌, ◌-◌, ◌*◌, ◌≤◌, ◌<◌}
use native.Mathlib.Nat.{mul-le-mul_right, mul-le-mul, add-mul, one-mul}
use native.Mathlib.Omega.{arith}
use lib.Dec.{T, leb, eqb}
use borrow.Author.Tests.{le-leb, leb-true}
use Rattle.points.specs.Plane.{legal}
use Rattle.goals.specs.Goals.{most_side, both}
use Rattle.stops.specs.Stops.{Sized, Within, Placed, Held, spot_of, number_of, within, free_at, byte_at}

-- a cell's number is below the area
pub place_lt : {w h x y : ℕ} → Within w h x y → number_of w x y < h * w
place_lt {w} {h} {x} {y} i =
    let k : y - 1 + 1 ≤ h = omega (arith, i.top, i.low) in
    let l : (y - 1 + 1) * w ≤ h * w = mul-le-mul_right w k in
    omega (arith, add-mul (y - 1) 1 w, one-mul w, i.left, i.right)

pub placed : {w h x y : ℕ} → w ≤ most_side → h ≤ most_side → Within w h x y → Placed w x y
placed {w} {h} {x} {y} a b i =
    let l : h * w ≤ most_side * most_side = mul-le-mul {n₁ = h} {m₁ = w} {n₂ = most_side} {m₂ = most_side} b a in
    record { left = i.left; top = i.top; low = omega (arith, place_lt i) }

-- a table has the byte of each cell inside
pub held : {t : List ℕ} {w h x y : ℕ} → Sized t w h → Within w h x y → Held t w x y
held s i = record { placed = placed s.wide s.high i; there = omega (arith, s.size, place_lt i) }

-- a cell inside is inside a larger grid
pub wider : {w h x y a b : ℕ} → w ≤ a → h ≤ b → Within w h x y → Within a b x y
wider p q i = record { left = i.left; right = omega (arith, i.right); top = i.top; low = omega (arith, i.low) }

-- its point is in range
pub spot_legal : {x y : ℕ} → Within most_side most_side x y → T (legal (spot_of x y))
spot_legal {x} {y} i = rw (le-leb (x - 1) 1023 (omega (arith, i.right)), le-leb (y - 1) 1023 (omega (arith, i.low))) tt

-- the test of being inside, and the fact
pub within_true : {w h x y : ℕ} → 1 ≤ x → x ≤ w → 1 ≤ y → y ≤ h → within w h x y ≡ true
unfolding within
within_true {w} {h} {x} {y} a b c d = simp (le-leb 1 x a, le-leb x w b, le-leb 1 y c, le-leb y h d)

both_true : (a b : Bool) → both a b ≡ true → (a ≡ true) × (b ≡ true)
both_true true b e = (refl, e)
both_true false b e = absurd (true≢false (sym e))

pub within_inside : (w h x y : ℕ) → within w h x y ≡ true → Within w h x y
unfolding within
within_inside w h x y e =
    let f = both_true (both (leb 1 x) (leb x w)) (both (leb 1 y) (leb y h)) e in
    let g = both_true (leb 1 x) (leb x w) f.0 in
    let k = both_true (leb 1 y) (leb y h) f.1 in
    record { left = leb-true 1 x g.0; right = leb-true x w g.1; top = leb-true 1 y k.0; low = leb-true y h k.1 }

pub free_inside : (blocked : List ℕ) (w h x y : ℕ) → free_at blocked w h x y ≡ true → Within w h x y
unfolding free_at
free_inside blocked w h x y e = within_inside w h x y (both_true _ (eqb (byte_at blocked w x y) 0) e).0
