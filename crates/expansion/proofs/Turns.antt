-- A turn of the expansion's loop over the directions, and what ends it. Assumes nothing.
use mathlib.Core.Path.{◌≡◌, sym, ap, subst, ◌∙◌}
use mathlib.Core.Bool.{true, false}
use mathlib.Core.List.{List}
use Prim.Native.Nat.{ℕ, zero, suc, ◌+◌, ◌-◌, ◌%◌, ◌<◌, ◌≤◌}
use native.Mathlib.Nat.{le_refl}
use native.Mathlib.Omega.{arith}
use lib.ListN.{length}
use Rattle.points.specs.declared.Point.{Point}
use Rattle.points.specs.declared.Direction.{Direction}
use Rattle.points.specs.declared.Refusal.{Refusal}
use Rattle.bends.specs.declared.Heading.{Heading}
use Rattle.std.specs.Prelude.{Some, Ok, Result}
use Rattle.bends.specs.Bends.{way_of}
use Rattle.headings.specs.Headings.{heading_of}
use Rattle.masks.specs.Masks.{has_bit, pruned_in}
use Rattle.goals.specs.declared.Plan.{Plan}
use Rattle.offers.specs.declared.Work.{Work}
use Rattle.std.specs.Prelude.{Result, Ok, Err}
use Rattle.offers.specs.Search.{ok, no, out_of, view, Stays}
use Rattle.offers.proofs.Rounds.{Rounds, round_same, round_turn, round_halt, round_end}
use Rattle.stops.specs.declared.Cell.{Cell}
use Rattle.stops.specs.Stops.{spot_of, byte_at, price_of}
use Rattle.jumps.specs.Jumps.{jump_of}
use Rattle.successors.specs.Successors.{Clear}
use Rattle.expansion.specs.Expand.{Tables, Ready, reached, deeper_at, follow_at, expand_at}
use Rattle.expansion.proofs.Laws.{follow_off, follow_on, expand_each}
use Rattle.expansion.proofs.Keeps.{follow_fit}

-- a step's price is some, and small
pub price_fits : (d price : ℕ) → price ≡ price_of d → (0 < price) × (price ≤ 99)
price_fits d price e = (omega (arith, e), omega (arith, e))

-- how a cell was reached: its heading, the mask and the price that go with that
pub record Faced (t : Tables) (p : Plan) (above : Point) (node : Cell) (mask price : ℕ) (d : Direction) : Type 0 where
  pub heading : Some d ≡ way_of (heading_of above (spot_of node.x node.y))
  pub pruned : mask ≡ pruned_in p.settings.diagonal (d.number % 8) (byte_at t.neighbours p.w node.x node.y)
  pub priced : price ≡ price_of d.number

pub faced : (t : Tables) (p : Plan) (above : Point) (node : Cell) (mask price : ℕ) (d : Direction) (here : Point) (o : Result Heading Refusal) (h : Heading) (around : ℕ) → here ≡ spot_of node.x node.y → o ≡ heading_of above here → o ≡ Ok h → Some d ≡ way_of (Ok h) → around ≡ byte_at t.neighbours p.w node.x node.y → mask ≡ pruned_in p.settings.diagonal (d.number % 8) around → price ≡ price_of d.number → Faced t p above node mask price d
faced t p above node mask price d here o h around a b c w e f g =
    record { heading = w ∙ ap way_of (sym c ∙ b ∙ ap (heading_of above) a); pruned = f ∙ ap (pruned_in p.settings.diagonal (d.number % 8)) e; priced = g }

module _ (t : Tables) (p : Plan) (from depth : ℕ) (above : Point) (node : Cell) (mask price base : ℕ) (heading : Direction) (faces : Faced t p above node mask price heading) (r₀ r : Work) (d : ℕ)
    (a : Rounds t.goals p (follow_at t p from depth above node mask price base) r₀ r d) where
  pub finished : 8 ≤ d → ok (view r) ≡ expand_at t p from depth above node base (view r₀)
  finished h =
      round_end t.goals p (follow_at t p from depth above node mask price base) r₀ r d a h
      ∙ expand_each t p (follow_at t p from depth) above node base (view r₀) heading mask price faces.heading faces.pruned faces.priced

  -- a direction that the mask lacks
  pub passed : d < 8 → has_bit mask (d % 8) ≡ false → Rounds t.goals p (follow_at t p from depth above node mask price base) r₀ r (d + 1)
  passed h b =
      round_same t.goals p (follow_at t p from depth above node mask price base) r₀ r d a h (follow_off t p from (deeper_at t p from depth) above node mask price base d (view r) b)

  module _ (h : d < 8) (has : has_bit mask (d % 8) ≡ true) (s : Work) (x : Result Unit Refusal)
      (e : out_of x s ≡ reached t p from (deeper_at t p from depth above) base d (view r) (jump_of t.blocked t.forced t.goals p d node price)) where
    followed : out_of x s ≡ follow_at t p from depth above node mask price base d (view r)
    followed = e ∙ follow_on t p from (deeper_at t p from depth) above node mask price base d (view r) has

    pub halted : (w : Refusal) → x ≡ Err w → no w ≡ expand_at t p from depth above node base (view r₀)
    halted w q =
        round_halt t.goals p (follow_at t p from depth above node mask price base) r₀ r d a s x h followed w q
        ∙ expand_each t p (follow_at t p from depth) above node base (view r₀) heading mask price faces.heading faces.pruned faces.priced

    pub turned : Ready t p from above node base depth r₀ → (u : Unit) → x ≡ Ok u → Stays r s → Rounds t.goals p (follow_at t p from depth above node mask price base) r₀ s (d + 1)
    turned ready u q k =
        let y = price_fits heading.number price faces.priced in
        round_turn t.goals p (follow_at t p from depth above node mask price base) r₀ r d a s x h followed u q
        (λ v w f l z. follow_fit t p from (length r₀.number.now) ready.lent.floor depth above node mask price base d ready.floors.sized.wide ready.floors.sized.high ready.inside y.0 y.1 v w f l z) k

-- directions that the mask lacks, one after the other, up to the next one that it has
module _ (t : Tables) (p : Plan) (from depth : ℕ) (above : Point) (node : Cell) (mask price base : ℕ) (heading : Direction) (faces : Faced t p above node mask price heading) (r₀ r : Work) where
  abbrev At : ℕ → Type 0
  At = Rounds t.goals p (follow_at t p from depth above node mask price base) r₀ r

  passed_by : (j d e : ℕ) → d + j ≡ e → e ≤ 8 → ((k : ℕ) → d ≤ k → k < e → has_bit mask (k % 8) ≡ false) → At d → At e
  passed_by zero d e q h g a = let z : d ≡ e = omega arith in subst At z a
  passed_by (suc j) d e q h g a =
      passed_by j (d + 1) e (omega arith) h (λ k x y. g k (omega arith) y)
      (passed t p from depth above node mask price base heading faces r₀ r d a (omega arith) (g d (le_refl d) (omega arith)))

  pub skipped : (d e : ℕ) → Clear mask d e → At d → At e
  skipped d e c a = passed_by (e - d) d e (omega (arith, c.after)) c.low c.clear a
