-- The costs that expanding sums: there are no others, and each is above the node's cost by at most an edge. Assumes nothing.
use mathlib.Core.Path.{◌≡◌, refl, sym, subst}
use mathlib.Core.Bool.{Bool, true, false, cond}
use Prim.Native.Nat.{ℕ, zero, suc, ◌+◌, ◌-◌, ◌*◌, ◌%◌, ◌<◌, ◌≤◌}
use native.Mathlib.Omega.{arith}
use lib.ListN.{length, get_or}
use Rattle.bends.specs.Bends.{way_of}
use Rattle.headings.specs.Headings.{heading_of}
use Rattle.std.specs.Prelude.{Option, Some, None}
use Rattle.points.specs.declared.Point.{Point}
use Rattle.points.specs.declared.Direction.{Direction}
use Rattle.points.specs.declared.Refusal.TheVariants.{Depth, Same}
use Rattle.masks.specs.Masks.{has_bit}
use Rattle.goals.specs.declared.Plan.{Plan}
use Rattle.goals.specs.Goals.{most_side}
use Rattle.offers.specs.Search.{State, Out, ok, no, onward, each, area_of}
use Rattle.nodes.proofs.Laws.{by_eq}
use Rattle.offers.proofs.Laws.{area_is}
use Rattle.stops.specs.declared.Cell.{Cell}
use Rattle.stops.specs.declared.Jump.{Jump}
use Rattle.std.specs.Prelude.{Option, Some, None}
use Rattle.stops.specs.Stops.{Inside, spot_of, number_of, price_of}
use Rattle.jumps.specs.Jumps.{jump_of}
use Rattle.stops.proofs.Laws.{place_lt}
use Rattle.jumps.proofs.Found.{jump_found}
use Rattle.expansion.specs.Expand.{Tables, reached, follow_with, travelled, expand_with, deeper_at, cell_of, leap_of}
use Rattle.successors.specs.Successors.{again_at, give_of}
use Rattle.expansion.specs.Start.{spread_of}
use Rattle.starts.specs.Start.{neighbour_of, offered_to, toward_of}
use Rattle.expansion.proofs.Leaps.{cell_inside}
use Rattle.expansion.proofs.Starts.{yield_start, yield_leap}
use Rattle.starts.proofs.Starts.{neighbour_lt}
use Rattle.search.specs.Loop.{Legal, GoodIn, edge_in}
use Rattle.search_laws.specs.Costs.{Comes, jump, again, Reaches, step, leap, NoOther}

-- what holds of either answer, of a thing after another, and of several things in order
module _ (Q : Out → Type 0) where
  by_cond : (b : Bool) (x y : Out) → Q x → Q y → Q (cond b x y)
  by_cond true x y f g = f
  by_cond false x y f g = g

  by_onward : (o : Out) (f : State → Out) → Q o → ((u : State) → Q (ok u) → Q (f u)) → Q (onward o f)
  by_onward (ok u) f q g = g u q
  by_onward (no w) f q g = q

  by_each : (f : ℕ → State → Out) → ((d : ℕ) (u : State) → Q (ok u) → Q (f d u)) → (j d : ℕ) (s : State) → Q (ok s) → Q (each f j d s)
  unfolding each
  by_each f g zero d s q = q
  by_each f g (suc j) d s q = by_onward (f d s) (each f j (d + 1)) (g d s q) (λ u x. by_each f g j (d + 1) u x)

-- ---- there are no others

module _ (t : Tables) (p : Plan) (from : ℕ) (Q : Out → Type 0) (depth : Q (no Depth)) (same : (q : Point) → Q (no (Same q))) where
  -- what offering each cell that the expansion of a cell comes to makes of a state
  abbrev Gives : ℕ → Cell → ℕ → Type 0
  Gives m node base = (c : Cell) (sum : ℕ) (u : State) → Comes t p m node base c sum → Q (ok u) → Q (give_of t.goals p from c sum u)

  -- `deeper` expands again where m more levels are allowed
  module _ (m : ℕ) (deeper : Point → Cell → ℕ → State → Out)
      (made : (above : Point) (c : Cell) (k : ℕ) (s : State) → ((l : ℕ) → m ≡ suc l → Gives l c k) → Q (ok s) → Q (deeper above c k s)) where
    module _ (above : Point) (node : Cell) (base d : ℕ) (give : Gives m node base) where
      reached_made : (e : ℕ) (s : State) (j : Option Jump) → jump_of t.blocked t.forced t.goals p e node (price_of d) ≡ j → Q (ok s) → Q (reached t p from (deeper above) base e s j)
      reached_made e s (Some j) f q =
          let c = j.cell in
          let k = j.cost in
          by_cond Q (again_at t.forced t.goals p e c) (deeper above c (base + k) s) (give_of t.goals p from c (base + k) s)
          (made above c (base + k) s (λ l z b sum u w x. give b sum u (subst (λ (n : ℕ). Comes t p n node base b sum) (sym z) (again d e f w)) x) q)
          (give c (base + k) s (jump d e f) q)
      reached_made e s Nothing f q = q

      follow_made : (mask e : ℕ) (s : State) → Q (ok s) → Q (follow_with t p from deeper above node mask (price_of d) base e s)
      unfolding follow_with
      follow_made mask e s q =
          by_cond Q (has_bit mask (e % 8)) (reached t p from (deeper above) base e s (jump_of t.blocked t.forced t.goals p e node (price_of d))) (ok s)
          (reached_made e s (jump_of t.blocked t.forced t.goals p e node (price_of d)) refl q) q

    travel_made : (above : Point) (c : Cell) (k : ℕ) (s : State) → Gives m c k → Q (ok s) → (g : Option Direction) → Q (travelled t p (follow_with t p from deeper) above c k s g)
    travel_made above c k s give q (Some d) = by_each Q _ (λ e u x. follow_made above c k d.number give _ e u x) 8 0 s q
    travel_made above c k s give q None = same above

    expand_made : (above : Point) (c : Cell) (k : ℕ) (s : State) → Gives m c k → Q (ok s) → Q (expand_with t p (follow_with t p from deeper) above c k s)
    unfolding expand_with
    expand_made above c k s give q = travel_made above c k s give q (way_of (heading_of above (spot_of c.x c.y)))

  deeper_made : (m : ℕ) (above : Point) (c : Cell) (k : ℕ) (s : State) → ((l : ℕ) → m ≡ suc l → Gives l c k) → Q (ok s) → Q (deeper_at t p from m above c k s)
  unfolding deeper_at
  deeper_made zero above c k s give q = depth
  deeper_made (suc m) above c k s give q = expand_made m (deeper_at t p from m) (deeper_made m) above c k s (give m refl) q

-- LAW: an expansion offers no other cell and sums no other cost
pub no_other : NoOther
unfolding spread_of leap_of toward_of give_of
no_other t p i k s Q here depth same offer =
    by_eq i 0 (λ z. subst Q (yield_start t p i k s z) (spread_made z)) (λ z. subst Q (yield_leap t p i k s z) (leap_made z))
  where
    toward : i ≡ 0 → (d : ℕ) (u : State) → Q (ok u) → (r : Option ℕ) → neighbour_of t.blocked p d ≡ r → Q (offered_to t.goals p i (k + price_of d) u r)
    toward z d u x (Some c) e = offer c (k + price_of d) u (step d z e) x
    toward z d u x None e = x

    toward_made : i ≡ 0 → (d : ℕ) (u : State) → Q (ok u) → Q (toward_of t.blocked t.goals p i k d u)
    toward_made z d u x = toward z d u x (neighbour_of t.blocked p d) refl

    give_made : (i ≡ 0 → ⊥) → Gives t p i Q depth same p.settings.depth (cell_of p.w (get_or s.nodes.place i 0)) k
    give_made z c sum u w x = offer (number_of p.w c.x c.y) sum u (leap z w) x

    spread_made : i ≡ 0 → Q (spread_of t.blocked t.goals p i k s)
    spread_made z = by_each Q (toward_of t.blocked t.goals p i k) (toward_made z) 8 0 s here

    leap_made : (i ≡ 0 → ⊥) → Q (leap_of t p i k s)
    leap_made z = expand_made t p i Q depth same p.settings.depth (deeper_at t p i p.settings.depth) (deeper_made t p i Q depth same p.settings.depth) _ _ k s (give_made z) here

-- ---- each is near the node's cost

-- a cell inside, at a cost above `base` by at most so much
record Near (p : Plan) (base most : ℕ) (c : Cell) (sum : ℕ) : Type 0 where
  inside : Inside p c
  more : base < sum
  near : sum ≤ base + most

module _ (t : Tables) (p : Plan) (wide : p.w ≤ most_side) (high : p.h ≤ most_side) where
  comes_near : {m : ℕ} {from c : Cell} {base sum : ℕ} → Inside p from → Comes t p m from base c sum → Near p base ((m + 1) * ((most_side - 1) * 99)) c sum
  comes_near i (jump {from = from} {c = c} {k = k} d e f) =
      let l : price_of d ≤ 99 = omega arith in
      let j = jump_found t.blocked t.forced t.goals p most_side e from (price_of d) c k wide high i l f in
      record { inside = j.inside; more = omega (arith, j.least); near = omega (arith, j.most) }
  comes_near i (again {from = from} {c = c} {k = k} d e f w) =
      let l : price_of d ≤ 99 = omega arith in
      let j = jump_found t.blocked t.forced t.goals p most_side e from (price_of d) c k wide high i l f in
      let r = comes_near j.inside w in
      record { inside = r.inside; more = omega (arith, j.least, r.more); near = omega (arith, j.most, r.near) }

-- LAW: of a node of a good state, the cell is one of the grid's, and its cost is above the node's by at most an edge
pub record Beyond (p : Plan) (k c sum : ℕ) : Type 0 where
  pub inside : c < area_of p
  pub more : k < sum
  pub near : sum ≤ k + edge_in p

pub reaches_beyond : (t : Tables) (p : Plan) (s : State) → Legal t.goals p → GoodIn p s → (i k : ℕ) → i < length s.nodes.place → {c sum : ℕ} → Reaches t p s.nodes i k c sum → Beyond p k c sum
reaches_beyond t p s l g i k hi (step {c = c} d z e) =
    record { inside = neighbour_lt t.blocked p d c e; more = omega arith; near = omega arith }
reaches_beyond t p s l g i k hi (leap z w) =
    let pos : 0 < i = omega arith in
    let n = comes_near t p l.sides.narrow l.sides.low (cell_inside p (get_or s.nodes.place i 0) l.sides.wide (g.landed i hi pos)) w in
    record { inside = omega (arith, place_lt n.inside, area_is p); more = n.more; near = n.near }
