-- A pop, and the turns of the search's loop over a lent room. Assumes nothing.
use mathlib.Core.Path.{◌≡◌, refl, ap, sym, ◌∙◌, subst}
use mathlib.Core.Bool.{Bool, true, false}
use mathlib.Core.List.{List}
use Prim.Native.Nat.{ℕ, ◌+◌, ◌-◌, ◌^◌, ◌<◌, ◌≤◌}
use native.Mathlib.Omega.{arith}
use lib.IntN.{ℤ}
use lib.ListN.{length, get_or, take}
use lib.Seq.{get_or-take}
use Rattle.points.specs.declared.Refusal.{Refusal}
use Rattle.points.specs.declared.Refusal.TheVariants.{Exhausted, Pops}
use Rattle.goals.specs.declared.Plan.{Plan}
use Rattle.sifts.specs.declared.Entry.{Entry}
use Rattle.sifts.specs.Sifts.{entries}
use Rattle.fringe.specs.Fringe.{top, rest}
use Rattle.keys.specs.Keys.{cost_of}
use Rattle.nodes.specs.Nodes.{nodes}
use Rattle.offers.specs.declared.Work.{Work}
use Rattle.offers.specs.Search.{State, state, view, Out, Expansion, area_of, popped, visit_of, hit, on, to_turn, turn_of, run, found, refused, begin, search_of, Fit, Lent, Stays}
use Rattle.offers.proofs.Laws.{count_le}
use Rattle.offers.proofs.Good.{good_popped, turn_next, lent_next}
use Rattle.offers.proofs.Start.{begin_good}
use Rattle.offers.proofs.Loop.{turn_hit, turn_go, run_empty, run_spent, run_hit, run_on, run_halt}
use Rattle.offers.proofs.Rounds.{stays_refl, stays_on}
use Rattle.rooms.specs.Rooms.{Room}
use Rattle.expansion.specs.Expand.{Tables, Backed}
use Rattle.expansion.specs.Start.{yield_of}
use Rattle.std.specs.Prelude.{Option, Some, None, Result, Ok, Err, IsErrAnd}
use Rattle.search.specs.declared.Hit.{Hit}
use Rattle.search.specs.Loop.{Legal, GoodIn, edge_in, goal_of, search_for, turn_as}
use Rattle.search.proofs.Laws.{edge_low, edges_low, yields_good}

-- what `?` hands on
pub passed_on : (x : Result (Option Hit) Refusal) (w : Refusal) → IsErrAnd x (λ v. v ≡ w) → x ≡ Err w
passed_on (Ok o) w h = absurd h
passed_on (Err v) w h = ap Err h

-- ---- a pop

pub place_low : {goals : List ℤ} {p : Plan} {r : Work} → Lent goals p r → (at : ℕ) → at < r.count → get_or r.place.now at 0 ≤ area_of p
place_low {r = r} a at h =
    let s = a.fit.sound in
    let l : at < length (take r.count r.place.now) = omega (arith, s.counts) in
    omega (arith, get_or-take r.count r.place.now at 0 h, s.within at l, a.floor)

pub pop_is : (r : Work) (l : List Entry) → l ≡ rest (view r).heap → state ((view r).nodes) l (r.heap - 1) ≡ popped (view r)
pop_is r l q = rw q

module _ {goals : List ℤ} {p : Plan} {r : Work} (a : Lent goals p r) (g : GoodIn p (view r)) (pos : 0 < r.heap) where
  pub pop_known : Legal goals p → (e : Entry) → e ≡ top (view r).heap → (e.index < r.count) × (cost_of e.key + edge_in p < 2 ^ 40)
  pop_known legal e q =
      let w = (good_popped (area_of p + 1) p.settings.fringe (edge_in p) (area_of p) (view r) pos g).1 in
      let i : e.index ≡ (top (view r).heap).index = ap (λ (x : Entry). x.index) q in
      let k : cost_of e.key ≡ cost_of (top (view r).heap).key = ap (λ (x : Entry). cost_of x.key) q in
      (omega (arith, i, w.known, a.fit.sound.counts), omega (arith, k, w.low, edges_low p legal, edge_low p legal))

  -- the room after the pop
  module _ (s : Work) (q : view s ≡ popped (view r)) where
    pub pop_lent : Stays r s → Lent goals p s
    pop_lent k =
        let w = (good_popped (area_of p + 1) p.settings.fringe (edge_in p) (area_of p) (view r) pos g).0.fit in
        lent_next a s k (subst (Fit p.settings.fringe) (sym q) w)

  pub pop_backed : (i : ℕ) → i < r.count → 0 < i → Backed p r i
  pop_backed i h z =
      let l : i < length (take r.count r.place.now) = omega (arith, a.fit.sound.counts) in
      let x = g.rising i l z in
      record {
        back = omega (arith, get_or-take r.count r.parent.now i 0 h, x.known, a.fit.sound.counts);
        landed = subst (λ (v : ℕ). v < area_of p) (get_or-take r.count r.place.now i 0 h) (g.landed i l z);
      }

module _ (exp : Expansion) (goal : ℕ → Bool) (e : Entry) (k : ℕ) (s u : State) (p : e ≡ top s.heap) (w : k ≡ cost_of e.key) (q : u ≡ popped s) where
  pub pop_hit : goal (get_or u.nodes.place e.index 0) ≡ true → hit e.index k u ≡ turn_of exp goal (top s.heap) (popped s)
  pop_hit g = rw (← p, ← q, w) (turn_hit exp goal e u g)

  pub pop_go : (o : Out) → goal (get_or u.nodes.place e.index 0) ≡ false → o ≡ visit_of exp e.index k u → to_turn o ≡ turn_of exp goal (top s.heap) (popped s)
  pop_go o g v = rw (← p, ← q) (turn_go exp goal e u g o (v ∙ ap (λ (x : ℕ). visit_of exp e.index x u) w))

-- ---- the loop

module _ (t : Tables) (p : Plan) (start : ℕ) (r₀ : Work) where
  pub record Searching (r : Work) (pops : ℕ) : Type 0 where
    pub stays : Stays r₀ r
    pub lent : Lent t.goals p r
    pub good : GoodIn p (view r)
    pub low : pops ≤ p.settings.pops
    pub same : run (yield_of t p) (goal_of t.goals p) (p.settings.pops - pops) pops (view r) ≡ search_for t p start

  pub search_start : (r : Work) → Stays r₀ r → Room p r₀ → Legal t.goals p → start ≤ area_of p → view r ≡ begin (area_of p + 1) start → Searching r 0
  unfolding search_of search_for
  search_start r q a l h e =
      let h' : start < area_of p + 1 = omega arith in
      let g : GoodIn p (view r) = subst (GoodIn p) (sym e) (begin_good p.settings.fringe (edge_in p) (area_of p) (area_of p + 1) start l.fringe h') in
      let z : p.settings.pops - 0 ≡ p.settings.pops = omega arith in
      record {
        stays = q;
        lent = record {
          aimed = l.aimed;
          sides = l.sides;
          floor = q.number.1 ∙ a.floor;
          place_long = omega (arith, a.place_long, q.number.1, q.place.1);
          parent_long = omega (arith, a.parent_long, q.number.1, q.parent.1);
          cost_long = omega (arith, a.cost_long, q.number.1, q.cost.1);
          keys_long = omega (arith, a.keys_long, q.keys.1);
          idx_long = omega (arith, a.idx_long, q.idx.1);
          counted = omega (arith, g.fit.sound.counts, count_le ((view r).nodes) g.fit.sound);
          fit = g.fit;
        };
        good = g;
        low = omega arith;
        same = rw (z, e);
      }

  module _ (r : Work) (pops : ℕ) (a : Searching r pops) where
    pub search_empty : r.heap ≤ 0 → refused Exhausted pops ≡ search_for t p start
    search_empty h = run_empty (yield_of t p) (goal_of t.goals p) (p.settings.pops - pops) pops (view r) h ∙ a.same

    module _ (h : 0 < r.heap) where
      pub search_spent : p.settings.pops ≤ pops → refused Pops pops ≡ search_for t p start
      search_spent l = run_spent (yield_of t p) (goal_of t.goals p) (p.settings.pops - pops) pops (view r) h (omega arith) ∙ a.same

      module _ (l : pops < p.settings.pops) (s : Work) (x : Result (Option Hit) Refusal)
          (e : turn_as x s ≡ turn_of (yield_of t p) (goal_of t.goals p) (top (view r).heap) (popped (view r))) where
        pub search_hit : (v : Hit) → x ≡ Ok (Some v) → found v.node v.cost (pops + 1) (view s) ≡ search_for t p start
        search_hit v z =
            run_hit (yield_of t p) (goal_of t.goals p) (p.settings.pops - pops) pops (view r) h (omega arith) v.node v.cost (view s) (rw (← e, z)) ∙ a.same

        pub search_halt : (w : Refusal) → x ≡ Err w → refused w (pops + 1) ≡ search_for t p start
        search_halt w z =
            run_halt (yield_of t p) (goal_of t.goals p) (p.settings.pops - pops) pops (view r) h (omega arith) w (rw (← e, z)) ∙ a.same

        pub search_on : x ≡ Ok None → Legal t.goals p → Stays r s → Searching s (pops + 1)
        search_on z legal q =
            let o : on (view s) ≡ turn_of (yield_of t p) (goal_of t.goals p) (top (view r).heap) (popped (view r)) = rw (← e, z) in
            let g = turn_next (area_of p + 1) p.settings.fringe (edge_in p) (area_of p) (yield_of t p) (goal_of t.goals p) (yields_good t p legal) (view r) a.good h (view s) o in
            let y : p.settings.pops - pops - 1 ≡ p.settings.pops - (pops + 1) = omega arith in
            record {
              stays = stays_on a.stays q;
              lent = lent_next a.lent s q g.good.fit;
              good = g.good;
              low = omega arith;
              same = ap (λ (v : ℕ). run (yield_of t p) (goal_of t.goals p) v (pops + 1) (view s)) (sym y)
                  ∙ run_on (yield_of t p) (goal_of t.goals p) (p.settings.pops - pops) pops (view r) h (omega arith) (view s) o ∙ a.same;
            }
