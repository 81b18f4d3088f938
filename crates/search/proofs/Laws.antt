-- The costs and the points of the search of a plan, and that its expansion keeps a good state good. Assumes nothing.
use mathlib.Core.Path.{◌≡◌, refl}
use mathlib.Core.List.{List}
use Prim.Native.Nat.{ℕ, ◌+◌, ◌*◌, ◌^◌, ◌<◌, ◌≤◌}
use native.Mathlib.Nat.{mul-le-mul}
use native.Mathlib.Omega.{arith}
use lib.IntN.{ℤ}
use Rattle.costs.specs.Limits.{most_depth}
use Rattle.goals.specs.declared.Plan.{Plan}
use Rattle.goals.specs.Goals.{most_side}
use Rattle.nodes.specs.Bound.{times, edge_of}
use Rattle.nodes.proofs.History.{times_is, base_bound}
use Rattle.offers.specs.Search.{State, Keeps, Ended, found, most_places, area_of}
use Rattle.offers.proofs.Passed.{found_ended}
use Rattle.offers.proofs.Laws.{area_low}
use Rattle.expansion.specs.Expand.{Tables}
use Rattle.expansion.specs.Start.{yield_of}
use Rattle.expansion.proofs.Starts.{yield_keeps}
use Rattle.search.specs.Loop.{Legal, edge_in, goal_of, search_for}

pub edge_low : {goals : List ℤ} (p : Plan) → Legal goals p → edge_in p ≤ edge_of most_side most_depth
edge_low p l = omega (arith, l.depth)

-- an edge for each place, with any guess, is below 2 ^ 31
pub edges_low : {goals : List ℤ} (p : Plan) → Legal goals p → times (edge_in p) (area_of p + 1) + 2 ^ 23 < 2 ^ 31
edges_low p l =
    let n : area_of p + 1 ≤ most_places = omega (arith, area_low p l.sides) in
    let m : (area_of p + 1) * edge_in p ≤ most_places * edge_of most_side most_depth = mul-le-mul n (edge_low p l) in
    let b : most_places * edge_of most_side most_depth + 2 ^ 23 < 2 ^ 31 = base_bound in
    omega (arith, times_is (edge_in p) (area_of p + 1))

-- expanding a node keeps a good state good
pub yields_good : (t : Tables) (p : Plan) → Legal t.goals p → Keeps (area_of p + 1) p.settings.fringe (edge_in p) (area_of p) (yield_of t p)
yields_good t p l = yield_keeps t p (area_of p + 1) most_side l.aimed l.sides l.sides.narrow l.sides.low (omega arith) refl (omega (arith, edges_low p l))

-- a search that found a goal leaves a good state, in which the goal is a node, popped at a cost that is bounded
pub search_ended : (t : Tables) (p : Plan) (start : ℕ) → Legal t.goals p → start ≤ area_of p → (i k n : ℕ) (s : State) → found i k n s ≡ search_for t p start
    → Ended (area_of p + 1) p.settings.fringe (edge_in p) (area_of p) i k s
unfolding search_for
search_ended t p start l h i k n s e =
    let h' : start < area_of p + 1 = omega arith in
    found_ended (yield_of t p) (goal_of t.goals p) (area_of p + 1) start p.settings.fringe (edge_in p) (area_of p) (yields_good t p l) l.fringe h' p.settings.pops i k n s e
