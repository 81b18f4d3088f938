-- A search that found a goal leaves nodes whose parents lead back to the start. Assumes nothing.
use mathlib.Core.Path.{◌≡◌, ap}
use Prim.Native.Nat.{ℕ, ◌+◌, ◌^◌, ◌<◌}
use native.Mathlib.Omega.{arith}
use lib.ListN.{length, get_or}
use Rattle.goals.specs.declared.Plan.{Plan}
use Rattle.nodes.specs.Bound.{times}
use Rattle.nodes.proofs.History.{hist_bound}
use Rattle.offers.specs.Search.{area_of, Sides, State, Ended}
use Rattle.trails.specs.Trail.{Climbs, Located, Tall}

module _ (p : Plan) (limit edge i k : ℕ) (t : State) (e : Ended (area_of p + 1) limit edge (area_of p) i k t) where
  in_place : (j : ℕ) → j < t.nodes.count → j < length t.nodes.place
  in_place j h = omega (arith, e.good.fit.sound.counts)

  pub end_located : Sides p → Located p t.nodes.place t.nodes.count
  end_located d =
      let s = e.good.fit.sound in
      record {
        sides = d;
        place_in = omega (arith, s.counts);
        low = λ j h. omega (arith, s.within j (in_place j h), e.good.floor);
      }

  pub end_climbs : Climbs t.nodes.parent t.nodes.cost t.nodes.count
  end_climbs =
      let s = e.good.fit.sound in
      record {
        parent_in = omega (arith, s.counts, s.parents);
        known = λ j h z. omega (arith, (e.good.rising j (in_place j h) z).known, s.counts);
        falls = λ j h z. (e.good.rising j (in_place j h) z).less;
      }

  pub end_tall : times edge (area_of p + 1) < 2 ^ 40 → Tall t.nodes.cost t.nodes.count i
  end_tall l =
      let b = hist_bound edge (get_or t.nodes.cost i 0) t.nodes (e.good.past i e.known) in
      let f : times edge (length t.nodes.number) ≡ times edge (area_of p + 1) = ap (times edge) e.good.floor in
      record { inside = omega (arith, e.known, e.good.fit.sound.counts); low = omega (arith, b, f, l) }
