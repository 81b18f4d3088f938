-- Stepping by cell numbers: how many cells lie ahead, and the number of the next one. Assumes nothing.
use mathlib.Core.Path.{◌≡◌, refl, sym, ◌∙◌, ap}
use mathlib.Core.Bool.{Bool, true, false}
use mathlib.Core.List.{List}
use Rattle.std.specs.Prelude.{Option}
use Prim.Native.Nat.{ℕ, zero, suc, ◌+◌, ◌-◌, ◌*◌, ◌≤◌, ◌<◌, min}
use native.Mathlib.Nat.{add-mul, one-mul}
use native.Mathlib.Omega.{arith}
use borrow.Author.Tests.{eq-eqb, ne_eqb}
use lib.Dec.{eqb}
use lib.ListN.{get_or}
use Rattle.stops.specs.Stops.{Within, number_of, byte_at, free_at}
use Rattle.looks.specs.Looks.{reach_of}
use Rattle.stops.specs.declared.Jump.{Jump}
use Rattle.stops.proofs.Laws.{place_lt, within_true, free_inside}
use Rattle.looks.proofs.Going.{Moves, Going, on}

record Ahead (ox oy w h x y : ℕ) : Type 0 where
  inside : 0 < reach_of ox oy w h x y → Within w h (x + ox - 1) (y + oy - 1)
  outside : reach_of ox oy w h x y ≡ 0 → Within w h (x + ox - 1) (y + oy - 1) → ⊥
  next : 0 < reach_of ox oy w h x y → reach_of ox oy w h (x + ox - 1) (y + oy - 1) + 1 ≡ reach_of ox oy w h x y

over : (o : ℕ) → suc (suc (suc o)) ≤ 2 → ⊥
over o l = omega arith

-- the lesser of two, which both fall
min_some : (a b : ℕ) → 0 < min a b → (0 < a) × (0 < b)
min_some a b l = (omega arith, omega arith)

min_none : (a b : ℕ) → min a b ≡ 0 → 0 < a → 0 < b → ⊥
min_none a b e l m = omega arith

min_falls : (a b c d : ℕ) → c + 1 ≡ a → d + 1 ≡ b → min c d + 1 ≡ min a b
min_falls a b c d e f = omega arith

ahead : (ox oy w h x y : ℕ) → Moves ox oy → Within w h x y → Ahead ox oy w h x y
unfolding reach_of
ahead zero zero w h x y m i = record {
  inside = λ l. let s = min_some (x - 1) (y - 1) l in record { left = omega (arith, s.0, i.left); right = omega (arith, s.0, i.right); top = omega (arith, s.1, i.top); low = omega (arith, s.1, i.low) };
  outside = λ e n. min_none (x - 1) (y - 1) e (omega (arith, n.left, n.right, i.left, i.right)) (omega (arith, n.top, n.low, i.top, i.low));
  next = λ l. let s = min_some (x - 1) (y - 1) l in min_falls (x - 1) (y - 1) (x + 0 - 1 - 1) (y + 0 - 1 - 1) (omega (arith, s.0, i.left)) (omega (arith, s.1, i.top));
}
ahead zero (suc zero) w h x y m i = record {
  inside = λ l. record { left = omega arith; right = omega (arith, i.right); top = omega (arith, i.top); low = omega (arith, i.low) };
  outside = λ e n. omega (arith, n.left, i.left);
  next = λ l. omega (arith, i.left);
}
ahead zero (suc (suc zero)) w h x y m i = record {
  inside = λ l. let s = min_some (x - 1) (h - y) l in record { left = omega (arith, s.0, i.left); right = omega (arith, s.0, i.right); top = omega (arith, s.1, i.top); low = omega (arith, s.1, i.low) };
  outside = λ e n. min_none (x - 1) (h - y) e (omega (arith, n.left, n.right, i.left, i.right)) (omega (arith, n.top, n.low, i.top, i.low));
  next = λ l. let s = min_some (x - 1) (h - y) l in min_falls (x - 1) (h - y) (x + 0 - 1 - 1) (h - (y + 2 - 1)) (omega (arith, s.0, i.left)) (omega (arith, s.1, i.top));
}
ahead (suc zero) zero w h x y m i = record {
  inside = λ l. record { left = omega (arith, i.left); right = omega (arith, i.right); top = omega arith; low = omega (arith, i.low) };
  outside = λ e n. omega (arith, n.top, i.top);
  next = λ l. omega (arith, i.top);
}
ahead (suc zero) (suc zero) w h x y m i = absurd (m.apart refl refl)
ahead (suc zero) (suc (suc zero)) w h x y m i = record {
  inside = λ l. record { left = omega (arith, i.left); right = omega (arith, i.right); top = omega (arith, i.top); low = omega arith };
  outside = λ e n. omega (arith, n.low, i.low);
  next = λ l. omega (arith, i.low);
}
ahead (suc (suc zero)) zero w h x y m i = record {
  inside = λ l. let s = min_some (w - x) (y - 1) l in record { left = omega (arith, s.0, i.left); right = omega (arith, s.0, i.right); top = omega (arith, s.1, i.top); low = omega (arith, s.1, i.low) };
  outside = λ e n. min_none (w - x) (y - 1) e (omega (arith, n.left, n.right, i.left, i.right)) (omega (arith, n.top, n.low, i.top, i.low));
  next = λ l. let s = min_some (w - x) (y - 1) l in min_falls (w - x) (y - 1) (w - (x + 2 - 1)) (y + 0 - 1 - 1) (omega (arith, s.0, i.left)) (omega (arith, s.1, i.top));
}
ahead (suc (suc zero)) (suc zero) w h x y m i = record {
  inside = λ l. record { left = omega (arith, i.left); right = omega arith; top = omega (arith, i.top); low = omega (arith, i.low) };
  outside = λ e n. omega (arith, n.right, i.right);
  next = λ l. omega (arith, i.right);
}
ahead (suc (suc zero)) (suc (suc zero)) w h x y m i = record {
  inside = λ l. let s = min_some (w - x) (h - y) l in record { left = omega (arith, s.0, i.left); right = omega (arith, s.0, i.right); top = omega (arith, s.1, i.top); low = omega (arith, s.1, i.low) };
  outside = λ e n. min_none (w - x) (h - y) e (omega (arith, n.left, n.right, i.left, i.right)) (omega (arith, n.top, n.low, i.top, i.low));
  next = λ l. let s = min_some (w - x) (h - y) l in min_falls (w - x) (h - y) (w - (x + 2 - 1)) (h - (y + 2 - 1)) (omega (arith, s.0, i.left)) (omega (arith, s.1, i.top));
}
ahead (suc (suc (suc ox))) oy w h x y m i = absurd (over ox m.narrow)
ahead zero (suc (suc (suc oy))) w h x y m i = absurd (over oy m.flat)
ahead (suc zero) (suc (suc (suc oy))) w h x y m i = absurd (over oy m.flat)
ahead (suc (suc zero)) (suc (suc (suc oy))) w h x y m i = absurd (over oy m.flat)

-- the number of the next cell
pub next_number : (ox oy w h x y : ℕ) → Within w h x y → Within w h (x + ox - 1) (y + oy - 1) → number_of w (x + ox - 1) (y + oy - 1) + (w + 1) ≡ number_of w x y + (oy * w + ox)
next_number ox oy w h x y i n =
    let k : y + oy - 1 - 1 + 1 ≡ y - 1 + oy = omega (arith, i.top, n.top) in
    let e : (y + oy - 1 - 1 + 1) * w ≡ (y - 1 + oy) * w = ap (λ (v : ℕ). v * w) k in
    omega (arith, e, add-mul (y + oy - 1 - 1) 1 w, one-mul w, add-mul (y - 1) oy w, i.left, n.left)

pub free_in : (blocked : List ℕ) {w h x y : ℕ} → Within w h x y → free_at blocked w h x y ≡ eqb (get_or blocked (number_of w x y) 0) 0
unfolding free_at byte_at
free_in blocked i = rw (within_true i.left i.right i.top i.low)

pub free_out : (blocked : List ℕ) (w h x y : ℕ) → (Within w h x y → ⊥) → free_at blocked w h x y ≡ false
free_out blocked w h x y n = go (free_at blocked w h x y) refl
  where
    go : (t : Bool) → free_at blocked w h x y ≡ t → free_at blocked w h x y ≡ false
    go true e = absurd (n (free_inside blocked w h x y e))
    go false e = e

module _ (blocked : List ℕ) (w h : ℕ) (stops : ℕ → ℕ → Bool) (ox oy price : ℕ) where
  -- the loop's invariant: what is to be found from a cell is the answer, its number is i, and so many cells lie ahead of it
  pub record Numbered (answer : Option Jump) (x y cost left i : ℕ) : Type 0 where
    pub going : Going blocked w h stops ox oy price answer x y cost
    pub here : i ≡ number_of w x y
    pub ahead : left ≡ reach_of ox oy w h x y

  -- the same of some cell, at whatever cost
  pub record Looking (answer : Option Jump) (left i : ℕ) : Type 0 where
    pub x : ℕ
    pub y : ℕ
    pub cost : ℕ
    pub numbered : Numbered answer x y cost left i

  module _ (answer : Option Jump) (x y cost left i : ℕ) (m : Moves ox oy) (n : Numbered answer x y cost left i) where
    a : Ahead ox oy w h x y
    a = ahead ox oy w h x y m n.going.inside

    pub next_in : 0 < left → Within w h (x + ox - 1) (y + oy - 1)
    next_in l = a.inside (omega (arith, n.ahead))

    pub next_out : left ≡ 0 → free_at blocked w h (x + ox - 1) (y + oy - 1) ≡ false
    next_out e = free_out blocked w h (x + ox - 1) (y + oy - 1) (a.outside (omega (arith, n.ahead)))

    pub next_left : (rest : ℕ) → rest + 1 ≡ left → rest ≡ reach_of ox oy w h (x + ox - 1) (y + oy - 1)
    next_left rest e = omega (arith, n.ahead, a.next (omega (arith, n.ahead)))

    pub next_is : 0 < left → number_of w (x + ox - 1) (y + oy - 1) + (w + 1) ≡ i + (oy * w + ox)
    next_is l = next_number ox oy w h x y n.going.inside (next_in l) ∙ ap (λ (k : ℕ). k + (oy * w + ox)) (sym n.here)

    module _ (l : 0 < left) where
      pub next_here : i + (oy * w + ox) - (w + 1) ≡ number_of w (x + ox - 1) (y + oy - 1)
      next_here = omega (arith, next_is l)

      pub next_fits : w + 1 ≤ i + (oy * w + ox)
      next_fits = omega (arith, next_is l)

      pub next_low : i + (oy * w + ox) - (w + 1) < h * w
      next_low = omega (arith, next_here, place_lt (next_in l))

      byte_is_lem : free_at blocked w h (x + ox - 1) (y + oy - 1) ≡ eqb (get_or blocked (i + (oy * w + ox) - (w + 1)) 0) 0
      byte_is_lem = free_in blocked (next_in l) ∙ ap (λ (k : ℕ). eqb (get_or blocked k 0) 0) (sym next_here)

      pub next_blocked : (get_or blocked (i + (oy * w + ox) - (w + 1)) 0 ≡ 0 → ⊥) → free_at blocked w h (x + ox - 1) (y + oy - 1) ≡ false
      next_blocked e = byte_is_lem ∙ ne_eqb _ 0 e

      pub next_free : get_or blocked (i + (oy * w + ox) - (w + 1)) 0 ≡ 0 → free_at blocked w h (x + ox - 1) (y + oy - 1) ≡ true
      next_free e = byte_is_lem ∙ eq-eqb _ 0 e

      pub next_on : price ≤ 99 → free_at blocked w h (x + ox - 1) (y + oy - 1) ≡ true → stops (x + ox - 1) (y + oy - 1) ≡ false → (rest : ℕ) → rest + 1 ≡ left
          → Numbered answer (x + ox - 1) (y + oy - 1) (cost + price) rest (i + (oy * w + ox) - (w + 1))
      next_on p e f rest r = record { going = on blocked w h stops ox oy price answer x y cost m n.going e p f; here = next_here; ahead = next_left rest r }
