-- Laws of cells' numbers.
-- Assumes nothing.
use Prim.Native.Nat.{ℕ, suc, ◌+◌, ◌-◌, ◌*◌, ◌/◌, ◌%◌, ◌≤◌, ◌<◌}
use mathlib.Core.Path.{◌≡◌, refl, sym, ap, ◌∙◌}
use mathlib.Core.Bool.{Bool, true, false, cond, ◌&&◌}
use mathlib.Core.Logic.{⊎_elim, ◌⊎◌, inl, inr}
use lib.Dec.{ltb, leb}
use borrow.Author.Tests.{le-leb, lt-leb, lt-ltb, ltb-true, leb-true, leb-false}
use Rattle.components.proofs.Loops.{and_true}
use Rattle.cells.specs.Cells.{most_side, sized_of, Sides, Within, cell_at, cell_to, place_of, cell_of}
use Rattle.points.specs.declared.Point.{Point}
use Rattle.directions.specs.Offsets.{off_x, off_y}
use native.Mathlib.Omega.{arith}
use native.Mathlib.Nat.{suc-mul, mul_comm, mul-le-mul_right, mul-le-mul, div-lt_iff_lt-mul, mod-eq_of_lt}

-- a cell's number is below w * h
pub cell_lt : (w h x y : ℕ) → x < w → y < h → y * w + x < w * h
cell_lt w h x y hx hy = omega (arith, mul-le-mul_right w hy, suc-mul y w, mul_comm w h)

pub area : (w h : ℕ) → w ≤ most_side → h ≤ most_side → w * h ≤ most_side * most_side
area w h hw hh = omega (arith, mul-le-mul hw hh)

-- a cell that is inside, told by its shifted place
pub cell_in : (w h p q : ℕ) → 1 ≤ p → p ≤ w → 1 ≤ q → q ≤ h → cell_at w h p q ≡ (q - 1) * w + (p - 1)
unfolding cell_at
cell_in w h p q a b c d = simp (le-leb 1 p a, le-leb p w b, le-leb 1 q c, le-leb q h d)

-- the neighbour's place, by the offsets that `points` gives
pub cell_to_is : (w h x y d r s : ℕ) → d < 8 → r ≡ off_x (d % 8) → s ≡ off_y (d % 8) → cell_at w h (x + r) (y + s) ≡ cell_to w h x y d
cell_to_is w h x y d r s l er es =
    let m : d % 8 ≡ d = mod-eq_of_lt l in
    rw (er, es, m)

pub inner_lt : (w h p q : ℕ) → 1 ≤ p → p ≤ w → 1 ≤ q → q ≤ h → (q - 1) * w + (p - 1) < w * h
inner_lt w h p q a b c d = cell_lt w h (p - 1) (q - 1) (omega arith) (omega arith)

-- the two answers of a neighbour's number
pub next_in : (w h x y d r s : ℕ) → d < 8 → r ≡ off_x (d % 8) → s ≡ off_y (d % 8) → 1 ≤ x + r → x + r ≤ w → 1 ≤ y + s → y + s ≤ h
    → ((y + s - 1) * w + (x + r - 1) ≡ cell_to w h x y d) × ((y + s - 1) * w + (x + r - 1) < w * h)
next_in w h x y d r s l er es a b c e = (sym (cell_in w h (x + r) (y + s) a b c e) ∙ cell_to_is w h x y d r s l er es, inner_lt w h (x + r) (y + s) a b c e)

pub inside : {w h x y : ℕ} → Within w h x y → y * w + x < w * h
inside {w} {h} {x} {y} r = cell_lt w h x y r.left r.down

pub row_lt : (w h i : ℕ) → 0 < w → i < w * h → i / w < h
row_lt w h i hw hi = (div-lt_iff_lt-mul hw).1 (omega (arith, mul_comm w h))

pub of_inside : (w h : ℕ) (p : Point) (x y : ℕ) → x ≡ place_of p.x w → y ≡ place_of p.y h → x < w → y < h → y * w + x ≡ cell_of w h p
unfolding cell_of
of_inside w h p x y ex ey a b = rw (← ex, ← ey, lt-ltb x w a, lt-ltb y h b)

-- a point that is a cell has a column and a row
pub places : (w h : ℕ) (p : Point) → cell_of w h p < w * h → (place_of p.x w < w) × (place_of p.y h < h)
unfolding cell_of
places w h p l = go (ltb (place_of p.x w) w) (ltb (place_of p.y h) h) refl refl l
  where
    go : (s t : Bool) → ltb (place_of p.x w) w ≡ s → ltb (place_of p.y h) h ≡ t
        → cond (s && t) (place_of p.y h * w + place_of p.x w) (w * h) < w * h → (place_of p.x w < w) × (place_of p.y h < h)
    go true true a b m = (ltb-true _ _ a, ltb-true _ _ b)
    go true false a b m = absurd (omega arith)
    go false t a b m = absurd (omega arith)

-- what the test of the sides says
pub sides_of_lem : {w h : ℕ} → sized_of w h ≡ true → Sides w h
unfolding sized_of
sides_of_lem {w} {h} e =
    let a = and_true (leb 1 w) (leb w most_side && (leb 1 h && leb h most_side)) e in
    let b = and_true (leb w most_side) (leb 1 h && leb h most_side) a.1 in
    let c = and_true (leb 1 h) (leb h most_side) b.1 in
    record { some = leb-true 1 w a.0; wide = leb-true w most_side b.0; high = leb-true h most_side c.1 }

pub le_or_gt : (a b : ℕ) → (a ≤ b) ⊎ (b < a)
le_or_gt a b = go (leb a b) refl
  where
    go : (t : Bool) → leb a b ≡ t → (a ≤ b) ⊎ (b < a)
    go true e = inl (leb-true a b e)
    go false e = inr (leb-false a b e)

-- a cell's number tells its place
pub same_row : (w x y i j : ℕ) → x < w → i < w → y * w + x ≡ j * w + i → y ≤ j
same_row w x y i j hx hi e =
    ⊎_elim (λ l. l) (λ l. absurd (no (mul-le-mul_right w l))) (le_or_gt y j)
  where
    no : suc j * w ≤ y * w → ⊥
    no m = omega (arith, suc-mul j w)

pub same_cell : (w x y i j : ℕ) → x < w → i < w → y * w + x ≡ j * w + i → (x ≡ i) × (y ≡ j)
same_cell w x y i j hx hi e =
    let r : y ≡ j = omega (arith, same_row w x y i j hx hi e, same_row w i j x y hi hx (sym e)) in
    let p : y * w ≡ j * w = ap (λ k. k * w) r in
    (omega arith, r)

-- inside, or at w * h
pub in_or_out : (w h p q : ℕ) → (cell_at w h p q ≡ w * h) ⊎ ((1 ≤ p) × (p ≤ w) × (1 ≤ q) × (q ≤ h))
unfolding cell_at
in_or_out w h p q =
    ⊎_elim (λ a. ⊎_elim (λ b. ⊎_elim (λ c. ⊎_elim (λ d. inr (a, b, c, d))
    (λ d. inl (simp (le-leb 1 p a, le-leb p w b, le-leb 1 q c, lt-leb q h d))) (le_or_gt q h))
    (λ c. inl (simp (le-leb 1 p a, le-leb p w b, lt-leb 1 q c))) (le_or_gt 1 q))
    (λ b. inl (simp (le-leb 1 p a, lt-leb p w b))) (le_or_gt p w))
    (λ a. inl (simp (lt-leb 1 p a))) (le_or_gt 1 p)
