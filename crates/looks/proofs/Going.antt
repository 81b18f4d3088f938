-- A loop that steps by one offset, at any stopping test and any price: what its invariant says, and what the end of each turn gives.
-- Assumes nothing.
use mathlib.Core.Path.{◌≡◌, refl}
use mathlib.Core.Bool.{Bool, true, false}
use mathlib.Core.List.{List, [], ◌∷◌}
use Rattle.std.specs.Prelude.{Option, Some, None}
use Prim.Native.Nat.{ℕ, zero, suc, ◌+◌, ◌-◌, ◌*◌, ◌%◌, ◌≤◌, ◌<◌}
use native.Mathlib.Nat.{mod-lt}
use native.Mathlib.Omega.{arith}
use lib.Dec.{lit<}
use lib.ListN.{get_or}
use Rattle.directions.specs.Offsets.{off_x, off_y}
use Rattle.directions.proofs.Eight.{by_eight}
use Rattle.goals.specs.Goals.{most_side}
use Rattle.stops.specs.Stops.{Within, landing, free_at}
use Rattle.looks.specs.Looks.{found, run}
use Rattle.stops.specs.declared.Jump.{Jump}
use Rattle.stops.proofs.Laws.{free_inside}

-- an offset leads at most one cell away, and not nowhere
pub record Moves (ox oy : ℕ) : Type 0 where
  pub narrow : ox ≤ 2
  pub flat : oy ≤ 2
  pub apart : ox ≡ 1 → oy ≡ 1 → ⊥

-- as each of the eight directions does
eight : (k : ℕ) → k < 8 → Moves (off_x k) (off_y k)
unfolding off_x off_y
eight =
    by_eight (λ k. Moves (off_x k) (off_y k))
    (record { narrow = omega arith; flat = omega arith; apart = λ a b. omega arith })
    (record { narrow = omega arith; flat = omega arith; apart = λ a b. omega arith })
    (record { narrow = omega arith; flat = omega arith; apart = λ a b. omega arith })
    (record { narrow = omega arith; flat = omega arith; apart = λ a b. omega arith })
    (record { narrow = omega arith; flat = omega arith; apart = λ a b. omega arith })
    (record { narrow = omega arith; flat = omega arith; apart = λ a b. omega arith })
    (record { narrow = omega arith; flat = omega arith; apart = λ a b. omega arith })
    (record { narrow = omega arith; flat = omega arith; apart = λ a b. omega arith })

pub moves : (d ox oy : ℕ) → ox ≡ off_x (d % 8) → oy ≡ off_y (d % 8) → Moves ox oy
moves d ox oy e f = rw (e, f) (eight (d % 8) (mod-lt d (lit< tt)))

-- how many steps there are inside along one side, and along the side that an offset leads to
abbrev ahead : ℕ → ℕ → ℕ → ℕ
ahead zero s x = x - 1
ahead (suc zero) s x = 0
ahead (suc (suc o)) s x = s - x

unfoldable pub left : ℕ → ℕ → ℕ → ℕ → ℕ → ℕ → ℕ
left ox oy w h x y = get_or ((x - 1) ∷ ahead oy h y ∷ (w - x) ∷ []) ox 0

-- the measure: a step inside leaves one less
pub falls : (ox oy w h x y : ℕ) → Moves ox oy → Within w h x y → Within w h (x + ox - 1) (y + oy - 1) → left ox oy w h (x + ox - 1) (y + oy - 1) + 1 ≡ left ox oy w h x y
unfolding left
falls zero oy w h x y m a b = omega (arith, a.left, b.left)
falls (suc zero) zero w h x y m a b = omega (arith, a.top, b.top)
falls (suc zero) (suc zero) w h x y m a b = absurd (m.apart refl refl)
falls (suc zero) (suc (suc zero)) w h x y m a b = omega (arith, a.low, b.low)
falls (suc zero) (suc (suc (suc o))) w h x y m a b = absurd (over o m.flat)
  where
    over : (o : ℕ) → suc (suc (suc o)) ≤ 2 → ⊥
    over o l = omega arith
falls (suc (suc zero)) oy w h x y m a b = omega (arith, a.right, b.right)
falls (suc (suc (suc o))) oy w h x y m a b = absurd (over o m.narrow)
  where
    over : (o : ℕ) → suc (suc (suc o)) ≤ 2 → ⊥
    over o l = omega arith

ahead_le : (o s x side : ℕ) → 1 ≤ x → x ≤ s → s ≤ side → ahead o s x + 1 ≤ side
ahead_le zero s x side a b c = omega arith
ahead_le (suc zero) s x side a b c = omega arith
ahead_le (suc (suc o)) s x side a b c = omega arith

-- and there is always less than a side of it
pub left_le : (ox oy w h x y side : ℕ) → Within w h x y → w ≤ side → h ≤ side → left ox oy w h x y + 1 ≤ side
unfolding left
left_le zero oy w h x y side i a b = omega (arith, i.left, i.right)
left_le (suc zero) oy w h x y side i a b = ahead_le oy h y side i.top i.low b
left_le (suc (suc zero)) oy w h x y side i a b = omega (arith, i.left, i.right)
left_le (suc (suc (suc o))) oy w h x y side i a b = omega (arith, i.left, i.right)

module _ (blocked : List ℕ) (w h : ℕ) (stops : ℕ → ℕ → Bool) (ox oy price : ℕ) where
  -- the loop's invariant: what is to be found from here is the answer
  pub record Going (answer : Option Jump) (x y cost : ℕ) : Type 0 where
    pub inside : Within w h x y
    pub fuel : ℕ
    pub enough : left ox oy w h x y < fuel
    pub same : run (free_at blocked w h) stops ox oy price fuel x y cost ≡ answer
    pub cheap : cost + 99 * left ox oy w h x y ≤ 99 * most_side

  pub start : (answer : Option Jump) (x y cost : ℕ) → Within w h x y → w ≤ most_side → h ≤ most_side → cost ≤ 99 → run (free_at blocked w h) stops ox oy price (w + h) x y cost ≡ answer → Going answer x y cost
  start answer x y cost i hw hh hc e =
      let a = left_le ox oy w h x y most_side i hw hh in
      let b = left_le ox oy w h x y (w + h) i (omega arith) (omega arith) in
      record { inside = i; fuel = w + h; enough = omega arith; same = e; cheap = omega arith }

  -- one turn, by the fuel
  turn : (n x y cost : ℕ) (answer : Option Jump) → 1 ≤ n → run (free_at blocked w h) stops ox oy price n x y cost ≡ answer → found (free_at blocked w h (x + ox - 1) (y + oy - 1)) (stops (x + ox - 1) (y + oy - 1)) (Some (landing (record { x = x + ox - 1; y = y + oy - 1 }) cost)) (run (free_at blocked w h) stops ox oy price (n - 1) (x + ox - 1) (y + oy - 1) (cost + price)) ≡ answer
  unfolding run
  turn zero x y cost answer l e = absurd (omega arith)
  turn (suc n) x y cost answer l e = let z : suc n - 1 ≡ n = omega arith in rw z e

  module _ (answer : Option Jump) (x y cost : ℕ) (m : Moves ox oy) (g : Going answer x y cost) where
    some : 1 ≤ g.fuel
    some = omega (arith, g.enough)

    pub nothing : free_at blocked w h (x + ox - 1) (y + oy - 1) ≡ false → None ≡ answer
    nothing e = rw e at (turn g.fuel x y cost answer some g.same)

    module _ (e : free_at blocked w h (x + ox - 1) (y + oy - 1) ≡ true) where
      pub here : stops (x + ox - 1) (y + oy - 1) ≡ true → Some (landing (record { x = x + ox - 1; y = y + oy - 1 }) cost) ≡ answer
      here f = rw (e, f) at (turn g.fuel x y cost answer some g.same)

      next : Within w h (x + ox - 1) (y + oy - 1)
      next = free_inside blocked w h (x + ox - 1) (y + oy - 1) e

      pub on : price ≤ 99 → stops (x + ox - 1) (y + oy - 1) ≡ false → Going answer (x + ox - 1) (y + oy - 1) (cost + price)
      on hp f =
          let l = falls ox oy w h x y m g.inside next in
          record {
            inside = next;
            fuel = g.fuel - 1;
            enough = omega (arith, g.enough);
            same = rw (e, f) at (turn g.fuel x y cost answer some g.same);
            cheap = omega (arith, g.cheap);
          }
