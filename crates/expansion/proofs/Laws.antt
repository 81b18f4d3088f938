-- The definitions of the expansion, by what its tests and calls say. Assumes nothing.
use mathlib.Core.Path.{◌≡◌, refl, sym, ◌∙◌}
use mathlib.Core.Bool.{Bool, true, false}
use Prim.Native.Nat.{ℕ, zero, suc, ◌+◌, ◌-◌, ◌%◌}
use native.Mathlib.Omega.{arith}
use Rattle.bends.specs.Bends.{way_of}
use Rattle.headings.specs.Headings.{heading_of}
use Rattle.std.specs.Prelude.{Some, None}
use Rattle.points.specs.declared.Point.{Point}
use Rattle.points.specs.declared.Direction.{Direction}
use Rattle.points.specs.declared.Refusal.TheVariants.{Depth, Same}
use Rattle.masks.specs.Masks.{has_bit, pruned_in}
use Rattle.goals.specs.declared.Plan.{Plan}
use Rattle.offers.specs.Search.{State, Out, ok, no, each}
use Rattle.stops.specs.declared.Cell.{Cell}
use Rattle.stops.specs.declared.Jump.{Jump}
use Rattle.std.specs.Prelude.{Option, Some, None}
use Rattle.stops.specs.Stops.{landing, spot_of, byte_at, price_of}
use Rattle.jumps.specs.Jumps.{jump_of}
use Rattle.successors.specs.Successors.{again_at, give_of}
use Rattle.expansion.specs.Expand.{Tables, reached, follow_with, expand_with, deeper_at, expand_at}

-- following one direction: nothing, or what its jump found
module _ (t : Tables) (p : Plan) (from : ℕ) (deeper : Point → Cell → ℕ → State → Out) (above : Point) (node : Cell) (mask price base e : ℕ) (s : State) where
  pub follow_off : has_bit mask (e % 8) ≡ false → ok s ≡ follow_with t p from deeper above node mask price base e s
  unfolding follow_with
  follow_off b = rw b

  pub follow_on : has_bit mask (e % 8) ≡ true → reached t p from (deeper above) base e s (jump_of t.blocked t.forced t.goals p e node price) ≡ follow_with t p from deeper above node mask price base e s
  unfolding follow_with
  follow_on b = rw b

module _ (t : Tables) (p : Plan) (from : ℕ) (deeper : Cell → ℕ → State → Out) (base e : ℕ) (s : State) (j : Option Jump) where
  pub reached_none : None ≡ j → ok s ≡ reached t p from deeper base e s j
  reached_none z = rw (← z)

  module _ (c : Cell) (k : ℕ) (z : Some (landing c k) ≡ j) where
    pub reached_give : again_at t.forced t.goals p e c ≡ false → give_of t.goals p from c (base + k) s ≡ reached t p from deeper base e s j
    reached_give a = rw (← z, a)

    pub reached_deep : again_at t.forced t.goals p e c ≡ true → deeper c (base + k) s ≡ reached t p from deeper base e s j
    reached_deep a = rw (← z, a)

-- expanding again
module _ (t : Tables) (p : Plan) (from : ℕ) (above : Point) (c : Cell) (k : ℕ) (s : State) where
  pub deeper_none : (m : ℕ) → m ≡ 0 → no Depth ≡ deeper_at t p from m above c k s
  unfolding deeper_at
  deeper_none m e = rw e

  pub deeper_more : (m : ℕ) → (m ≡ 0 → ⊥) → expand_at t p from (m - 1) above c k s ≡ deeper_at t p from m above c k s
  unfolding deeper_at
  deeper_more zero f = absurd (f refl)
  deeper_more (suc m) f = let z : suc m - 1 ≡ m = omega arith in rw z

-- following a direction whose jump found a cell
module _ (t : Tables) (p : Plan) (from depth : ℕ) (above : Point) (base e : ℕ) (s : State) (j : Option Jump) (c : Cell) (k : ℕ) (z : Some (landing c k) ≡ j) (again : Bool) (a : again ≡ again_at t.forced t.goals p e c) where
  pub found_none : depth ≡ 0 → again ≡ true → no Depth ≡ reached t p from (deeper_at t p from depth above) base e s j
  found_none m q = deeper_none t p from above c (base + k) s depth m ∙ reached_deep t p from (deeper_at t p from depth above) base e s j c k z (sym a ∙ q)

  pub found_more : (o : Out) → (depth ≡ 0 → ⊥) → again ≡ true → o ≡ expand_at t p from (depth - 1) above c (base + k) s → o ≡ reached t p from (deeper_at t p from depth above) base e s j
  found_more o m q r = r ∙ deeper_more t p from above c (base + k) s depth m ∙ reached_deep t p from (deeper_at t p from depth above) base e s j c k z (sym a ∙ q)

  pub found_give : (o : Out) → again ≡ false → o ≡ give_of t.goals p from c (base + k) s → o ≡ reached t p from (deeper_at t p from depth above) base e s j
  found_give o q r = r ∙ reached_give t p from (deeper_at t p from depth above) base e s j c k z (sym a ∙ q)

-- expanding a cell
module _ (t : Tables) (p : Plan) (along : Point → Cell → ℕ → ℕ → ℕ → ℕ → State → Out) (above : Point) (node : Cell) (base : ℕ) (s : State) where
  pub expand_same : None ≡ way_of (heading_of above (spot_of node.x node.y)) → no (Same above) ≡ expand_with t p along above node base s
  unfolding expand_with
  expand_same e = rw (← e)

  pub expand_each : (d : Direction) (mask price : ℕ) → Some d ≡ way_of (heading_of above (spot_of node.x node.y))
      → mask ≡ pruned_in p.settings.diagonal (d.number % 8) (byte_at t.neighbours p.w node.x node.y) → price ≡ price_of d.number
      → each (along above node mask price base) 8 0 s ≡ expand_with t p along above node base s
  unfolding expand_with
  expand_each d mask price e a b = rw (← e, a, b)
