-- A node's cell and its parent's point; and its expansion keeps a good state good. Assumes nothing.
use mathlib.Core.Path.{◌≡◌, sym, subst}
use mathlib.Core.List.{List}
use Prim.Native.Nat.{ℕ, ◌+◌, ◌/◌, ◌%◌, ◌^◌, ◌<◌, ◌≤◌}
use native.Mathlib.Nat.{le_refl, mod-lt, div-lt_iff_lt-mul}
use native.Mathlib.Omega.{arith}
use lib.Dec.{T}
use lib.IntN.{ℤ}
use lib.ListN.{length, get_or, take}
use lib.Seq.{get_or-take}
use Rattle.points.specs.Plane.{legal}
use Rattle.points.specs.declared.Point.{Point}
use Rattle.goals.specs.declared.Plan.{Plan}
use Rattle.goals.specs.Goals.{most_side, Aimed}
use Rattle.nodes.specs.Bound.{Hist, times, edge_of}
use Rattle.nodes.proofs.Laws.{by_eq, later_refl, later_trans}
use Rattle.nodes.proofs.History.{hist_later}
use Rattle.offers.specs.declared.Work.{Work}
use Rattle.offers.specs.Search.{State, ok, view, area_of, place_point, guess_at, Sides, Good, Next, Lent}
use Rattle.offers.proofs.Laws.{area_is, point_start, point_cell, cell_legal, guess_low}
use Rattle.offers.proofs.Good.{offer_next}
use Rattle.stops.specs.declared.Cell.{Cell}
use Rattle.stops.specs.Stops.{Inside, number_of}
use Rattle.stops.proofs.Laws.{place_lt}
use Rattle.successors.specs.Successors.{give_of}
use Rattle.expansion.specs.Expand.{Tables, Floors, Ready, cell_of, leap_from, leap_of, expand_at}
use Rattle.expansion.proofs.Keeps.{expand_keeps}

-- a place that is at most the area has a point in range
pub above_legal : (p : Plan) (c : ℕ) → Sides p → T (legal p.start) → c ≤ area_of p → T (legal (place_point p c))
above_legal p c s l h =
    by_eq c (area_of p)
    (λ e. subst (λ (z : Point). T (legal z)) (point_start p c e) l)
    (λ e. subst (λ (z : Point). T (legal z)) (point_cell p c e) (cell_legal p c s (omega arith)))

pub cell_inside : (p : Plan) (c : ℕ) → 0 < p.w → c < area_of p → Inside p (cell_of p.w c)
cell_inside p c pos l =
    let x : c % p.w < p.w = mod-lt c pos in
    let y : c / p.w < p.h = (div-lt_iff_lt-mul pos).1 (rw (area_is p) at l) in
    record { left = omega arith; right = omega arith; top = omega arith; low = omega arith }

-- a node's place is at most the area
pub place_le : (goals : List ℤ) (p : Plan) (r : Work) (i : ℕ) → Lent goals p r → i < r.count → get_or r.place.now i 0 ≤ area_of p
place_le goals p r i a h =
    let s = a.fit.sound in
    let l : i < length (take r.count r.place.now) = omega (arith, s.counts) in
    omega (arith, get_or-take r.count r.place.now i 0 h, s.within i l, a.floor)

-- what the expansion of a node asks, from what the node is
pub leap_ready : (t : Tables) (p : Plan) (from up k : ℕ) (r : Work) (above : Point) (node : Cell) → Lent t.goals p r → Floors t p → T (legal p.start) → from < r.count
    → up < r.count → get_or r.place.now from 0 < area_of p → k + edge_of most_side p.settings.depth < 2 ^ 40
    → above ≡ place_point p (get_or r.place.now up 0) → node ≡ cell_of p.w (get_or r.place.now from 0) → Ready t p from above node k p.settings.depth r
leap_ready t p from up k r above node a f g h b c l e d =
    record {
      floors = f;
      lent = a;
      seen = subst (λ (z : Point). T (legal z)) (sym e) (above_legal p _ a.sides g (place_le t.goals p r _ a b));
      inside = subst (λ (z : Cell). Inside p z) (sym d) (cell_inside p _ a.sides.wide c);
      known = omega (arith, a.counted);
      cheap = l;
    }

pub leap_is : (t : Tables) (p : Plan) (from up k : ℕ) (r : Work) (above : Point) (node : Cell) → from < r.count → up < r.count
    → above ≡ place_point p (get_or r.place.now up 0) → node ≡ cell_of p.w (get_or r.place.now from 0)
    → expand_at t p from p.settings.depth above node k (view r) ≡ leap_from t p up from k (view r)
leap_is t p from up k r above node h b e d =
    rw (e, d, get_or-take r.count r.place.now up 0 b, get_or-take r.count r.place.now from 0 h)

-- over any side: an edge costs at most one jump across it for each level
module _ (t : Tables) (p : Plan) (n side : ℕ) (aimed : Aimed t.goals p) (sides : Sides p) (wide : p.w ≤ side) (high : p.h ≤ side) (floor : n ≡ area_of p + 1)
    (low : times (edge_of side p.settings.depth) n < 2 ^ 40) where
  abbrev edge : ℕ
  edge = edge_of side p.settings.depth

  pub leap_next : (i k : ℕ) (s u : State) → Good n p.settings.fringe edge (area_of p) s → i < length s.nodes.place → 0 < i → get_or s.nodes.cost i 0 ≡ k → leap_of t p i k s ≡ ok u → Next n p.settings.fringe edge (area_of p) s u
  unfolding leap_of give_of
  leap_next i k s u g hi pos hk e =
      let old : Hist edge k s.nodes = subst (λ (x : ℕ). Hist edge x s.nodes) hk (g.past i hi) in
      expand_keeps t p i
      (Next n p.settings.fringe edge (area_of p) s) k (k + edge) side wide high
      (λ c j v w b lo hi' x z.
      let l = x.later in
      let q : number_of p.w c.x c.y < area_of p = omega (arith, place_lt b, area_is p) in
      let hc : number_of p.w c.x c.y < n = omega arith in
      let hf : i < length v.nodes.place = omega (arith, l.more) in
      let up : get_or v.nodes.cost i 0 ≤ k = omega (arith, l.falls i hi) in
      let y = offer_next n p.settings.fringe edge (area_of p) (guess_at t.goals p (number_of p.w c.x c.y)) i (number_of p.w c.x c.y) j k v x.good hc q hf up
      (hist_later edge k s.nodes v.nodes l old) lo hi' (guess_low t.goals p (number_of p.w c.x c.y) aimed sides q) low w z in
      record { good = y.good; later = later_trans s.nodes v.nodes w.nodes l y.later })
      p.settings.depth (place_point p (get_or s.nodes.place (get_or s.nodes.parent i 0) 0)) (cell_of p.w (get_or s.nodes.place i 0)) k s u (cell_inside p _ sides.wide (g.landed i hi pos)) (le_refl k) (le_refl (k + edge))
      (record { good = g; later = later_refl s.nodes }) e
