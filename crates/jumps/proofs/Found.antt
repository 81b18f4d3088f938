-- What a jump that finds something has found. For the callers of `jump_along`. Assumes nothing.
use mathlib.Core.Path.{◌≡◌, refl, ap}
use mathlib.Core.Bool.{Bool, true, false}
use mathlib.Core.List.{List}
use Rattle.std.specs.Prelude.{Some}
use Prim.Native.Nat.{ℕ, zero, suc, ◌+◌, ◌-◌, ◌*◌, ◌%◌, ◌≤◌, ◌<◌}
use native.Mathlib.Omega.{arith}
use lib.IntN.{ℤ}
use Rattle.directions.specs.Offsets.{off_x, off_y}
use Rattle.goals.specs.declared.Plan.{Plan}
use Rattle.stops.specs.Stops.{Within, Inside, landing, free_at, price_of}
use Rattle.looks.specs.Looks.{found, run}
use Rattle.jumps.specs.Jumps.{halts_at, jump_of}
use Rattle.stops.specs.declared.Cell.{Cell}
use Rattle.stops.specs.declared.Jump.{Jump}
use Rattle.stops.proofs.Laws.{free_inside}
use Rattle.looks.proofs.Going.{Moves, moves, left, falls, left_le}

module _ (blocked : List ℕ) (w h : ℕ) (stops : ℕ → ℕ → Bool) (ox oy price : ℕ) (m : Moves ox oy) (hp : price ≤ 99) (c : Cell) (k : ℕ) where
  -- what was found from a cell at a cost
  record Reached (x y cost : ℕ) : Type 0 where
    free : free_at blocked w h c.x c.y ≡ true
    ahead : left ox oy w h c.x c.y < left ox oy w h x y
    least : cost ≤ k
    most : k + 99 ≤ cost + 99 * left ox oy w h x y

  one : (n x y cost : ℕ) (b s : Bool) → Within w h x y → free_at blocked w h (x + ox - 1) (y + oy - 1) ≡ b
      → (Within w h (x + ox - 1) (y + oy - 1) → run (free_at blocked w h) stops ox oy price n (x + ox - 1) (y + oy - 1) (cost + price) ≡ Some (landing c k) → Reached (x + ox - 1) (y + oy - 1) (cost + price))
      → found b s (Some (landing (record { x = x + ox - 1; y = y + oy - 1 }) cost)) (run (free_at blocked w h) stops ox oy price n (x + ox - 1) (y + oy - 1) (cost + price)) ≡ Some (landing c k) → Reached x y cost
  one n x y cost false s i e ih f = let z : ◌≡◌ {A = ℕ} 0 1 = cc in absurd (omega arith)
  one n x y cost true true i e ih f =
      let j : landing (record { x = x + ox - 1; y = y + oy - 1 }) cost ≡ landing c k = cc in
      let a : x + ox - 1 ≡ c.x = ap (λ (v : Jump). v.cell.x) j in
      let b : y + oy - 1 ≡ c.y = ap (λ (v : Jump). v.cell.y) j in
      let d : cost ≡ k = ap (λ (v : Jump). v.cost) j in
      let l = falls ox oy w h x y m i (free_inside blocked w h (x + ox - 1) (y + oy - 1) e) in
      record { free = rw (← a, ← b) e; ahead = rw (← a, ← b) (omega (arith, l)); least = omega arith; most = omega (arith, l) }
  one n x y cost true false i e ih f =
      let j = free_inside blocked w h (x + ox - 1) (y + oy - 1) e in
      let l = falls ox oy w h x y m i j in
      let g = ih j f in
      record { free = g.free; ahead = omega (arith, l, g.ahead); least = omega (arith, g.least); most = omega (arith, l, g.most) }

  reach : (n x y cost : ℕ) → Within w h x y → run (free_at blocked w h) stops ox oy price n x y cost ≡ Some (landing c k) → Reached x y cost
  unfolding run
  reach zero x y cost i e = let z : ◌≡◌ {A = ℕ} 0 1 = cc in absurd (omega arith)
  reach (suc n) x y cost i e =
      one n x y cost (free_at blocked w h (x + ox - 1) (y + oy - 1)) (stops (x + ox - 1) (y + oy - 1)) i refl (reach n (x + ox - 1) (y + oy - 1) (cost + price)) e

-- a jump ends at a free cell, inside and other than the one it left, at no less than its first price
pub record Landed (blocked : List ℕ) (p : Plan) (side price : ℕ) (from c : Cell) (k : ℕ) : Type 0 where
  pub inside : Inside p c
  pub free : free_at blocked p.w p.h c.x c.y ≡ true
  pub apart : from ≡ c → ⊥
  pub least : price ≤ k
  pub most : k ≤ (side - 1) * 99

-- and at most at 99 for each step across the grid
pub jump_found : (blocked forced : List ℕ) (goals : List ℤ) (p : Plan) (side d : ℕ) (from : Cell) (price : ℕ) (c : Cell) (k : ℕ) → p.w ≤ side → p.h ≤ side → Inside p from → price ≤ 99
    → jump_of blocked forced goals p d from price ≡ Some (landing c k) → Landed blocked p side price from c k
unfolding jump_of
jump_found blocked forced goals p side d from price c k hw hh i hp e =
    let m = moves d (off_x (d % 8)) (off_y (d % 8)) refl refl in
    let ps : price_of d ≤ 99 = omega arith in
    let f = reach blocked p.w p.h (halts_at blocked forced goals p d) (off_x (d % 8)) (off_y (d % 8)) (price_of d) m ps c k (p.w + p.h) from.x from.y price i e in
    let l = left_le (off_x (d % 8)) (off_y (d % 8)) p.w p.h from.x from.y side i hw hh in
    record {
      inside = free_inside blocked p.w p.h c.x c.y f.free;
      free = f.free;
      apart = λ q. let z = ap (λ (v : Cell). left (off_x (d % 8)) (off_y (d % 8)) p.w p.h v.x v.y) q in omega (arith, z, f.ahead);
      least = f.least;
      most = omega (arith, l, f.most);
    }
