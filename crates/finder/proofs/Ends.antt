-- What the search of a plan asks of lent slices, and what it leaves for its waypoints. Assumes nothing.
use mathlib.Core.Path.{◌≡◌, ap, sym, ◌∙◌}
use mathlib.Core.List.{List, ◌++◌}
use Prim.Native.Nat.{ℕ, ◌+◌, ◌*◌, ◌^◌, ◌<◌, ◌≤◌}
use native.Mathlib.Nat.{mul_comm}
use native.Mathlib.Omega.{arith}
use lib.IntN.{ℤ}
use lib.ListN.{length, take, drop, length-append, length-take, length-drop}
use lib.Seq.{length-take-le}
use Rattle.points.specs.declared.Refusal.{Refusal}
use Rattle.goals.specs.declared.Plan.{Plan}
use Rattle.nodes.specs.Bound.{times}
use Rattle.offers.specs.declared.Work.{Work}
use Rattle.offers.specs.Search as S
use Rattle.offers.specs.Search.{State, view, found, refused, Ended, area_of}
use Rattle.offers.proofs.Laws.{area_is}
use Rattle.stops.specs.Stops.{Sized}
use Rattle.expansion.specs.Expand.{Tables, Floors}
use Rattle.std.specs.Prelude.{Result, Ok, Err}
use Rattle.search.specs.declared.Hit.{Hit}
use Rattle.search.specs.declared.Reply.{Reply}
use Rattle.rooms.specs.Rooms.{Room}
use Rattle.search.specs.Loop.{Legal, edge_in, search_for, reply_of}
use Rattle.search.proofs.Laws.{edges_low, search_ended}
use Rattle.trails.specs.Trail.{wrote_of, left_in}
use Rattle.trails.proofs.Ends.{end_located, end_climbs, end_tall}
use Rattle.cells.specs.Cells.{cell_of}
use Rattle.finder.specs.declared.Answer.{Answer}
use Rattle.finder.specs.declared.Found.{Found}
use Rattle.finder.specs.Find.{Covered, Roomy, Traceable, tables_of, route_in, told_of, answer_of, out_after, started_of}
use Rattle.finder.proofs.Laws.{cell_of_le}

-- ---- what it asks

module _ {goals : List ℤ} {p : Plan} (l : Legal goals p) where
  area : p.w * p.h ≡ area_of p
  area = mul_comm p.w p.h ∙ sym (area_is p)

  sized : (t : List ℕ) → p.w * p.h ≤ length t → Sized (take (p.w * p.h) t) p.w p.h
  sized t h = record { size = length-take-le (p.w * p.h) t h ∙ mul_comm p.w p.h; wide = l.sides.narrow; high = l.sides.low }

  pub floors : (blocked neighbours forced : List ℕ) → Covered (p.w * p.h) blocked neighbours forced → Floors (tables_of (p.w * p.h) blocked neighbours forced goals) p
  floors blocked neighbours forced a =
      record { marked = l.marked; sized = sized blocked a.blocked; sized_neighbours = sized neighbours a.neighbours; sized_forced = sized forced a.forced }

  pub rooms : (number : List ℕ) (r : Work) → Roomy (p.w * p.h + 1) p.settings.fringe number r.place.now r.parent.now r.cost.now r.keys.now r.idx.now → r.number.now ≡ take (p.w * p.h + 1) number → Room p r
  rooms number r a e =
      let f : length r.number.now ≡ p.w * p.h + 1 = ap length e ∙ length-take-le (p.w * p.h + 1) number a.number in
      record {
        floor = f ∙ ap (λ (x : ℕ). x + 1) area;
        place_long = omega (arith, f, a.place);
        parent_long = omega (arith, f, a.parent);
        cost_long = omega (arith, f, a.cost);
        keys_long = a.keys;
        idx_long = a.idx;
      }

  pub start_in : (c : ℕ) → c ≡ cell_of p.w p.h p.start → c ≤ area_of p
  start_in c e = omega (arith, e, cell_of_le p.w p.h p.start, area)

-- ---- what it leaves

-- a list whose first places were lent and came back
pub put_back : (n : ℕ) (l l' : List ℕ) → n ≤ length l → length l' ≡ length (take n l) → length (l' ++ drop n l) ≡ length l
put_back n l l' h e = omega (arith, length-append l' (drop n l), length-drop n l, length-take-le n l h)

module _ (t : Tables) (p : Plan) (start : ℕ) (legal : Legal t.goals p) (hs : start ≤ area_of p) (r : Work) (n : ℕ) (h : Hit)
    (e : found h.node h.cost n (view r) ≡ search_for t p start) where
  ended : Ended (area_of p + 1) p.settings.fringe (edge_in p) (area_of p) h.node h.cost (view r)
  ended = search_ended t p start legal hs h.node h.cost n (view r) e

  longer : (c : ℕ) (l : List ℕ) → c ≤ length (take c l) → c ≤ length l
  longer c l h = omega (arith, length-take c l)

  pub traceable : Traceable p r.place.now r.parent.now r.cost.now r.count h
  traceable =
      let s = ended.good.fit.sound in
      let low : times (edge_in p) (area_of p + 1) < 2 ^ 40 = omega (arith, edges_low p legal) in
      record {
        place_in = longer r.count r.place.now (omega (arith, s.counts));
        parent_in = longer r.count r.parent.now (omega (arith, s.counts, s.parents));
        cost_in = longer r.count r.cost.now (omega (arith, s.counts, s.costs));
        located = end_located p p.settings.fringe (edge_in p) h.node h.cost (view r) ended legal.sides;
        climbs = end_climbs p p.settings.fringe (edge_in p) h.node h.cost (view r) ended;
        tall = end_tall p p.settings.fringe (edge_in p) h.node h.cost (view r) ended low;
      }

pub started : (blocked neighbours forced : List ℕ) (goals : List ℤ) (p : Plan) (c : ℕ) → c ≡ cell_of p.w p.h p.start → search_for (tables_of (p.w * p.h) blocked neighbours forced goals) p c ≡ started_of blocked neighbours forced goals p
unfolding started_of
started blocked neighbours forced goals p c e = ap (search_for (tables_of (p.w * p.h) blocked neighbours forced goals) p) e

-- ---- the answers, by what the search and the writing came to

pub reply_found : (r : Reply) (h : Hit) (s : Work) (o : S.Reply) → reply_of r s ≡ o → r.outcome ≡ Ok h → found h.node h.cost r.pops (view s) ≡ o
reply_found r h s o q z = rw (← q, z)

pub reply_refused : (r : Reply) (w : Refusal) (s : Work) (o : S.Reply) → reply_of r s ≡ o → r.outcome ≡ Err w → refused w r.pops ≡ o
reply_refused r w s o q z = rw (← q, z)

pub find_refused : (w : Refusal) (n room : ℕ) (p : Plan) (out : List ℤ) (o : S.Reply) → refused w n ≡ o → (◌≡◌ {A = Answer} (record { pops = n; outcome = Err w }) (answer_of room o)) × (out ≡ out_after out p o)
unfolding answer_of out_after
find_refused w n room p out o e = (ap (answer_of room) e, ap (out_after out p) e)

pub find_found : (i k n room : ℕ) (p : Plan) (s : State) (out out' : List ℤ) (o : S.Reply) (f : Result Found Refusal) → found i k n s ≡ o → (f ≡ told_of k (wrote_of room (route_in s i))) × (out' ≡ left_in out p s.nodes.place (route_in s i))
    → (◌≡◌ {A = Answer} (record { pops = n; outcome = f }) (answer_of room o)) × (out' ≡ out_after out p o)
unfolding answer_of out_after
find_found i k n room p s out out' o f e w = (rw w.0 (ap (answer_of room) e), w.1 ∙ ap (out_after out p) e)
