-- Every cost is below 2^31: a recorded one by its history (`costs_fit`), one that waits because the states are good, and a sum because it is an edge more.
-- Assumes nothing.
use Prim.Native.Nat.{ℕ, ◌+◌, ◌*◌, ◌^◌, ◌<◌, ◌≤◌}
use native.Mathlib.Nat.{le_refl, mul-le-mul}
use native.Mathlib.Omega.{arith}
use lib.Dec.{lit<}
use lib.ListN.{get_or}
use Rattle.costs.specs.Limits.{most_depth}
use Rattle.goals.specs.declared.Plan.{Plan}
use Rattle.goals.specs.Goals.{most_side}
use Rattle.sifts.specs.Sifts.{at}
use Rattle.keys.specs.Keys.{cost_of}
use Rattle.nodes.specs.Bound.{times, edge_of}
use Rattle.nodes.proofs.History.{times_is}
use Rattle.offers.specs.Search.{State, most_places, area_of}
use Rattle.offers.proofs.Good.{costs_fit}
use Rattle.offers.proofs.Laws.{area_low, guess_low}
use Rattle.offers.proofs.Passed.{passed_good}
use Rattle.expansion.specs.Expand.{Tables}
use Rattle.expansion.specs.Start.{yield_of}
use Rattle.search.specs.Loop.{Legal, GoodIn, edge_in, goal_of}
use Rattle.search.proofs.Laws.{edge_low, yields_good}
use Rattle.search_laws.specs.Replies.{PassedIn}
use Rattle.search_laws.specs.Costs.{Below, CostsBelow, EveryCost}
use Rattle.search_laws.proofs.Sums.{reaches_beyond}

-- LAW: every state that the search of a legal plan passes is good
pub passed_in : (t : Tables) (p : Plan) (start : ℕ) → Legal t.goals p → start ≤ area_of p → {m : ℕ} {s : State} → PassedIn t p start m s → GoodIn p s
passed_in t p start l h a =
    let h' : start < area_of p + 1 = omega arith in
    passed_good (yield_of t p) (goal_of t.goals p) (area_of p + 1) start p.settings.fringe (edge_in p) (area_of p) (yields_good t p l) l.fringe h' a

module _ (t : Tables) (p : Plan) (l : Legal t.goals p) where
  -- an edge for each place and one more, with any guess
  pub one_more : times (edge_in p) (area_of p + 1) + edge_in p + 2 ^ 23 < 2 ^ 31
  one_more =
      let n : area_of p + 1 ≤ most_places = omega (arith, area_low p l.sides) in
      let m : (area_of p + 1) * edge_in p ≤ most_places * edge_of most_side most_depth = mul-le-mul n (edge_low p l) in
      let b : most_places * edge_of most_side most_depth + edge_of most_side most_depth + 2 ^ 23 < 2 ^ 31 = lit< tt in
      omega (arith, times_is (edge_in p) (area_of p + 1), edge_low p l)

  pub below : (k : ℕ) → k + 2 ^ 23 < 2 ^ 31 → Below t p k
  below k q = record { cost = omega arith; estimate = λ c h. omega (arith, guess_low t.goals p c l.aimed l.sides h) }

  good_below : (s : State) → GoodIn p s → CostsBelow t p s
  good_below s g =
      record {
        recorded = λ i h.
            let n : area_of p + 1 ≤ most_side * most_side + 1 = omega (arith, area_low p l.sides) in
            below (get_or s.nodes.cost i 0) (omega (arith, costs_fit most_side p.settings.depth (area_of p + 1) p.settings.fringe (area_of p) s (le_refl most_side) l.depth n g i h));
        waiting = λ i h. below (cost_of (at s.heap i).key) (omega (arith, (g.queued i h).low, one_more));
        summed = λ i h c sum r.
            below sum (omega (arith, (g.queued i h).low, one_more, (reaches_beyond t p s l g (at s.heap i).index (cost_of (at s.heap i).key) (g.queued i h).known r).near));
      }

-- LAW: THE COSTS
pub every_cost : EveryCost
every_cost t p start l h m s a = good_below t p l s (passed_in t p start l h a)
