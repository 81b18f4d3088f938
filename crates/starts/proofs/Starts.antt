-- The start's neighbours, and what offering one keeps. Assumes nothing.
use mathlib.Core.Path.{◌≡◌, refl, subst}
use mathlib.Core.Bool.{Bool, true, false, not, cond, true≢false}
use mathlib.Core.List.{List}
use Prim.Native.Nat.{ℕ, ◌+◌, ◌%◌, ◌<◌}
use native.Mathlib.Omega.{arith}
use borrow.Author.Tests.{ltb-true}
use lib.Dec.{eqb}
use lib.IntN.{ℤ, pos, negsuc, nat_abs}
use lib.Signed.{lt_z}
use lib.ListN.{length}
use Rattle.points.specs.Compass.{moved}
use Rattle.points.specs.declared.Point.{Point}
use Rattle.goals.specs.declared.Plan.{Plan}
use Rattle.goals.specs.Goals.{both}
use Rattle.offers.specs.Search.{State, ok, area_of, guess_at, offer_of, Fit}
use Rattle.offers.proofs.Laws.{area_is}
use Rattle.offers.proofs.Good.{same_ok, offer_fit}
use Rattle.stops.specs.Stops.{number_of, free_at, price_of}
use Rattle.stops.proofs.Laws.{place_lt, free_inside}
use Rattle.std.specs.Prelude.{Option, Some, None}
use Rattle.starts.specs.Start.{side_of, free_cell, neighbour_of, offered_to, toward_of}

-- a coordinate is before the first column or row, or it is a number
pub side_low : (v : ℤ) → lt_z v (pos 0) ≡ true → 0 ≡ side_of v
side_low (pos n) e = absurd (none n (ltb-true n 0 e))
  where
    none : (n : ℕ) → n < 0 → ⊥
    none n h = omega arith
side_low (negsuc n) e = refl

pub side_on : (v : ℤ) → lt_z v (pos 0) ≡ false → nat_abs v + 1 ≡ side_of v
side_on (pos n) e = refl
side_on (negsuc n) e = absurd (true≢false e)

-- a neighbour that is found is a cell
free_cell_lt : (p : Plan) (x y c : ℕ) (blocked : List ℕ) (b : Bool) → free_at blocked p.w p.h x y ≡ b → cond b (Some (number_of p.w x y)) None ≡ Some c → c < area_of p
free_cell_lt p x y c blocked true e f =
    let z : number_of p.w x y ≡ c = cc in
    omega (arith, place_lt (free_inside blocked p.w p.h x y e), area_is p)
free_cell_lt p x y c blocked false e f = let z : ◌≡◌ {A = ℕ} 0 1 = cc in absurd (omega arith)

either_of : (b : Bool) (r : Option ℕ) (c : ℕ) (X : Type 0) → (r ≡ Some c → X) → cond b None r ≡ Some c → X
either_of true r c X f e = let z : ◌≡◌ {A = ℕ} 0 1 = cc in absurd (omega arith)
either_of false r c X f e = f e

pub neighbour_lt : (blocked : List ℕ) (p : Plan) (d c : ℕ) → neighbour_of blocked p d ≡ Some c → c < area_of p
unfolding neighbour_of free_cell
neighbour_lt blocked p d c e =
    let x = side_of (moved p.start d).x in
    let y = side_of (moved p.start d).y in
    either_of (both (eqb (d % 2) 1) (not p.settings.diagonal)) _ c (c < area_of p) (free_cell_lt p x y c blocked (free_at blocked p.w p.h x y) refl) e

pub neighbour_is : (blocked : List ℕ) (p : Plan) (d : ℕ) (at : Point) (x y : ℕ) → both (eqb (d % 2) 1) (not p.settings.diagonal) ≡ false → at ≡ moved p.start d → x ≡ side_of at.x → y ≡ side_of at.y
    → free_cell blocked p.w p.h x y ≡ neighbour_of blocked p d
unfolding neighbour_of
neighbour_is blocked p d at x y b e ex ey = rw (b, ex, ey, e)

-- towards one neighbour, by what it is
module _ (blocked : List ℕ) (goals : List ℤ) (p : Plan) (from k d : ℕ) (s : State) where
  pub toward_none : None ≡ neighbour_of blocked p d → ok s ≡ toward_of blocked goals p from k d s
  unfolding toward_of
  toward_none e = rw (← e)

  pub toward_at : (c price : ℕ) → Some c ≡ neighbour_of blocked p d → price ≡ price_of d → offer_of p.settings.fringe (guess_at goals p c) from c (k + price) s ≡ toward_of blocked goals p from k d s
  unfolding toward_of
  toward_at c price e f = rw (← e, f)

  -- what an offer of a cell keeps, it keeps
  pub toward_keeps : (P : State → Type 0) (u : State) → P s → ((c : ℕ) → c < area_of p → offer_of p.settings.fringe (guess_at goals p c) from c (k + price_of d) s ≡ ok u → P u) → toward_of blocked goals p from k d s ≡ ok u → P u
  unfolding toward_of
  toward_keeps P u x f e = by (neighbour_of blocked p d) refl e
    where
      by : (r : Option ℕ) → neighbour_of blocked p d ≡ r → offered_to goals p from (k + price_of d) s r ≡ ok u → P u
      by (Some c) q z = f c (neighbour_lt blocked p d c q) z
      by None q z = subst P (same_ok s u z) x

pub toward_fit : (blocked : List ℕ) (goals : List ℤ) (p : Plan) (from k d n : ℕ) → n ≡ area_of p + 1 → (s u : State) → Fit p.settings.fringe s → length s.nodes.number ≡ n → toward_of blocked goals p from k d s ≡ ok u → Fit p.settings.fringe u
toward_fit blocked goals p from k d n floor s u f q e =
    toward_keeps blocked goals p from k d s (Fit p.settings.fringe) u f
    (λ c l z. offer_fit p.settings.fringe (guess_at goals p c) from c (k + price_of d) s u f (omega arith) z) e
