-- A cell's number and its point; and one exact goal, which is known by its number. Assumes nothing.
use mathlib.Core.Path.{◌≡◌, refl, sym, ◌∙◌, ap}
use mathlib.Core.Bool.{Bool, true, false, cond, ◌&&◌}
use mathlib.Core.List.{List}
use Prim.Native.Nat.{ℕ, zero, suc, ◌+◌, ◌-◌, ◌*◌, ◌/◌, ◌%◌, ◌≤◌, ◌<◌}
use native.Mathlib.Nat.{div-add-mod', mod-lt, mul_comm}
use native.Mathlib.Omega.{arith}
use borrow.Author.Tests.{le-ltb, eq-eqb, ne_eqb, ltb-true, ltb-false, eqb-true, eqb-false}
use lib.Dec.{ltb, eqb}
use lib.IntN.{ℤ, pos, negsuc}
use Rattle.points.specs.declared.Point.{Point}
use Rattle.cells.specs.Cells.{place_of, cell_of}
use Rattle.cells.proofs.Cell.{row_lt, same_cell}
use Rattle.goals.specs.declared.Plan.{Plan}
use Rattle.goals.specs.declared.Goal.{Goal}
use Rattle.goals.specs.declared.Goal.TheVariants.{Exact, Near, Several}
use Rattle.goals.specs.Goals.{most_side, Numbered, both, same_z, same_point, point_of, is_goal, goal_at}
use Rattle.stops.specs.Stops.{Within, spot_of, number_of, byte_at, stops_at, stops_in, target_in, Marked}

-- the point of a cell's number is the cell's
pub point_of_number : {w h x y : ℕ} → Within w h x y → point_of w (number_of w x y) ≡ spot_of x y
point_of_number {w} {h} {x} {y} i =
    let n = number_of w x y in
    let e : n / w * w + n % w ≡ n = div-add-mod' n w in
    let c = same_cell w (n % w) (n / w) (x - 1) (y - 1) (mod-lt n (omega (arith, i.left, i.right))) (omega (arith, i.left, i.right)) e in
    rw (c.0, c.1)

-- so a cell stops as its number does
pub stops_in_lem : (forced : List ℕ) (goals : List ℤ) (p : Plan) (d : ℕ) {x y : ℕ} → Within p.w p.h x y → stops_in forced goals p d (number_of p.w x y) ≡ stops_at forced goals p d x y
unfolding stops_in stops_at byte_at
stops_in_lem forced goals p d i = rw (point_of_number i)

both_false : (a : Bool) → both a false ≡ false
both_false true = refl
both_false false = refl

module _ (w h i : ℕ) (wide : 0 < w) (hi : i < w * h) where
  off : eqb i (w * h) ≡ false
  off = ne_eqb i (w * h) (λ e. omega arith)

  low : i / w < h
  low = row_lt w h i wide hi

  across : i % w < w
  across = mod-lt i wide

  -- a point inside is the one of the number exactly if its number is that
  inside : (a b : ℕ) → a < w → b < h → both (eqb (i % w) a) (eqb (i / w) b) ≡ eqb i (b * w + a)
  inside a b ha hb = go (eqb (i % w) a) (eqb (i / w) b) refl refl
    where
      e : i / w * w + i % w ≡ i
      e = div-add-mod' i w

      go : (s t : Bool) → eqb (i % w) a ≡ s → eqb (i / w) b ≡ t → both s t ≡ eqb i (b * w + a)
      go true true u v = sym (eq-eqb i (b * w + a) (sym e ∙ ap (λ (k : ℕ). k * w + i % w) (eqb-true (i / w) b v) ∙ ap (λ (k : ℕ). b * w + k) (eqb-true (i % w) a u)))
      go true false u v = sym (ne_eqb i (b * w + a) (λ f. eqb-false (i / w) b v (same_cell w (i % w) (i / w) a b across ha (e ∙ f)).1))
      go false t u v = sym (ne_eqb i (b * w + a) (λ f. eqb-false (i % w) a u (same_cell w (i % w) (i / w) a b across ha (e ∙ f)).0))

  at : (a b : ℤ) → both (same_z (pos (i % w)) a) (same_z (pos (i / w)) b) ≡ eqb i (cond (ltb (place_of a w) w && ltb (place_of b h) h) (place_of b h * w + place_of a w) (w * h))
  at (negsuc a) b = rw (le-ltb w w (omega arith), off)
  at (pos a) (negsuc b) = go (ltb a w) refl
    where
      go : (s : Bool) → ltb a w ≡ s → both (eqb (i % w) a) false ≡ eqb i (cond (ltb (cond (ltb a w) a w) w && ltb h h) (h * w + cond (ltb a w) a w) (w * h))
      go true u = rw (both_false (eqb (i % w) a), u, u, le-ltb h h (omega arith), off)
      go false u = rw (both_false (eqb (i % w) a), u, le-ltb w w (omega arith), off)
  at (pos a) (pos b) = go (ltb a w) (ltb b h) refl refl
    where
      go : (s t : Bool) → ltb a w ≡ s → ltb b h ≡ t → both (eqb (i % w) a) (eqb (i / w) b) ≡ eqb i (cond (ltb (cond (ltb a w) a w) w && ltb (cond (ltb b h) b h) h) (cond (ltb b h) b h * w + cond (ltb a w) a w) (w * h))
      go true true u v = rw (u, v, u, v) (inside a b (ltb-true a w u) (ltb-true b h v))
      go true false u v = rw (ne_eqb (i / w) b (λ f. omega (arith, ltb-false b h v, low)), both_false (eqb (i % w) a), u, v, u, le-ltb h h (omega arith), off)
      go false t u v = rw (ne_eqb (i % w) a (λ f. omega (arith, ltb-false a w u, across)), u, le-ltb w w (omega arith), off)

  hit : (q : Point) → same_point (point_of w i) q ≡ eqb i (cell_of w h q)
  unfolding cell_of
  hit q = at q.x q.y

  is_in : (gs : List ℤ) (d : Bool) (g : Goal) → target_in w h g ≤ w * h → eqb i (target_in w h g) ≡ is_goal gs d g (point_of w i)
  is_in gs d (Exact q) l = sym (hit q)
  is_in gs d (Near q) l = absurd (omega arith)
  is_in gs d (Several n) l = absurd (omega arith)

-- a grid that has a cell is not 0 wide
some : (w h i : ℕ) → i < h * w → 0 < w
some zero h i l = absurd (omega arith)
some (suc w) h i l = omega arith

-- a cell's number is one
pub numbered : {w h i : ℕ} → w ≤ most_side → h ≤ most_side → i < h * w → Numbered w i
numbered {w} {h} {i} hw hh hi = record { some = some w h i hi; wide = hw; low = omega (arith, row_lt w h i (some w h i hi) (rw (mul_comm h w) at hi)) }

module _ (goals : List ℤ) (p : Plan) (i : ℕ) (hi : i < p.h * p.w) where
  area : i < p.w * p.h
  area = rw (mul_comm p.h p.w) at hi

  pub target_is : Marked p → p.target ≤ p.w * p.h → eqb i p.target ≡ goal_at goals p (point_of p.w i)
  unfolding goal_at
  target_is m l = rw m (is_in p.w p.h i (some p.w p.h i hi) area goals p.settings.diagonal p.goal (omega (arith, m)))
