-- The start in a cleared room: what recording it asks, and that this is where the search begins. Assumes nothing.
use mathlib.Core.Path.{◌≡◌, ap, ◌∙◌}
use mathlib.Core.List.{List, []}
use Prim.Native.Nat.{ℕ, ◌≤◌}
use native.Mathlib.Omega.{arith}
use lib.ListN.{length, get_or, replicate, length-replicate}
use Rattle.goals.specs.declared.Plan.{Plan}
use Rattle.sifts.specs.declared.Entry.{Entry}
use Rattle.sifts.specs.Sifts.{entry}
use Rattle.fringe.specs.Fringe.{push}
use Rattle.keys.specs.Keys.{key_of}
use Rattle.nodes.specs.Nodes.{Nodes, Note, Able, nodes, note_of}
use Rattle.offers.specs.Search.{state, Sides, area_of, none, begin}
use Rattle.offers.specs.declared.Work.{Work}
use Rattle.offers.proofs.Laws.{area_low}
use Rattle.offers.proofs.Start.{zeros}
use Rattle.rooms.specs.Rooms.{Room}

pub nodes_none : (n : ℕ) (number place parent cost : List ℕ) → number ≡ replicate n 0 → nodes number place parent cost 0 ≡ none n
unfolding none
nodes_none n number place parent cost e = rw e

pub able_start : (p : Plan) (r : Work) (number' : List ℕ) (start : ℕ) → Room p r → Sides p → start ≤ area_of p → number' ≡ replicate (length r.number.now) 0 → Able number' r.place.now r.parent.now r.cost.now 0 start 0
able_start p r number' start a s h e =
    let l : length number' ≡ length r.number.now = ap length e ∙ length-replicate (length r.number.now) 0 in
    record {
      cell_in = omega (arith, a.floor);
      known = omega (arith, ap (λ (x : List ℕ). get_or x start 0) e, zeros (length r.number.now) start);
      spare = λ z. omega (arith, a.floor);
      place_long = omega (arith, a.place_long);
      parent_long = omega (arith, a.parent_long);
      cost_long = omega (arith, a.cost_long);
      counted = omega arith;
      small = omega (arith, a.floor, area_low p s);
      from_small = omega arith;
    }

pub begun : (n start key : ℕ) (r : Note) (z : Nodes) (l : List Entry) → r ≡ note_of start 0 0 z → z ≡ none n → l ≡ push [] (entry key 0) → key ≡ key_of 0 0 → state r.nodes l 1 ≡ begin n start
unfolding begin
begun n start key r z l e q w k = rw (e, q, w, k)
