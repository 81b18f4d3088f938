-- The laws of places, and of offering a successor. Assumes nothing.
use mathlib.Core.Path.{◌≡◌, refl, ap}
use mathlib.Core.Bool.{true, false}
use mathlib.Core.List.{List}
use Prim.Native.Nat.{ℕ, ◌+◌, ◌*◌, ◌/◌, ◌^◌, ◌<◌, ◌≤◌}
use native.Mathlib.Nat.{mul-le-mul, lt_of_le_of_lt, div-lt_iff_lt-mul}
use native.Mathlib.Omega.{arith}
use borrow.Author.Tests.{eq-eqb, ne_eqb, lt-ltb, le-ltb}
use lib.Dec.{T, lit<}
use lib.ListN.{length}
use Rattle.goals.specs.declared.Plan.{Plan}
use Rattle.sifts.specs.declared.Entry.{Entry}
use Rattle.sifts.specs.Sifts.{entry}
use Rattle.fringe.specs.Fringe.{push}
use Rattle.nodes.specs.Nodes.{Nodes, Note, note_of, Sound, Able, filled}
use Rattle.nodes.proofs.Laws.{took, filled_le, filled_lt}
use Rattle.keys.specs.Keys.{key_of}
use Rattle.offers.specs.declared.Work.{Work}
use Rattle.points.specs.declared.Refusal.TheVariants.{Fringe}
use Rattle.points.specs.Plane.{legal}
use Rattle.goals.specs.Goals.{most_side, point_of, Numbered, Aimed}
use Rattle.goals.proofs.Points.{numbered_legal}
use Rattle.goals.proofs.Estimate.{guess_small}
use lib.IntN.{ℤ}
use Rattle.offers.specs.Search.{most_places, area_of, place_point, guess_at, Sides, State, state, ok, no, offer_of, Lent}

-- ---- places

pub area_is : (p : Plan) → area_of p ≡ p.h * p.w
unfolding area_of
area_is p = refl

pub area_low : (p : Plan) → Sides p → area_of p < most_places
unfolding area_of
area_low p s = let h : p.h * p.w ≤ most_side * most_side = mul-le-mul s.low s.narrow in lt_of_le_of_lt h (lit< tt)

pub cell_numbered : (p : Plan) (c : ℕ) → Sides p → c < area_of p → Numbered p.w c
unfolding area_of
cell_numbered p c s h =
    let y : c / p.w < p.h = (div-lt_iff_lt-mul s.wide).1 h in
    record { some = s.wide; wide = s.narrow; low = omega (arith, s.low) }

-- a cell's point is legal
pub cell_legal : (p : Plan) (c : ℕ) → Sides p → c < area_of p → T (legal (point_of p.w c))
cell_legal p c s h = numbered_legal p.w c (cell_numbered p c s h)

pub guess_low : (goals : List ℤ) (p : Plan) (c : ℕ) → Aimed goals p → Sides p → c < area_of p → guess_at goals p c < 2 ^ 23
unfolding guess_at
guess_low goals p c a s h = guess_small goals p (point_of p.w c) a (cell_legal p c s h)

-- the point of a place, by what it is
pub point_start : (p : Plan) (c : ℕ) → c ≡ area_of p → p.start ≡ place_point p c
unfolding place_point
point_start p c e = rw (eq-eqb c (area_of p) e)

pub point_cell : (p : Plan) (c : ℕ) → (c ≡ area_of p → ⊥) → point_of p.w c ≡ place_point p c
unfolding place_point
point_cell p c e = rw (ne_eqb c (area_of p) e)

-- ---- the room

module _ {goals : List ℤ} {p : Plan} {r : Work} (a : Lent goals p r) where
  pub places_low : length r.number.now ≤ most_places
  places_low = omega (arith, a.floor, area_low p a.sides)

  pub cell_in : (cell : ℕ) → cell < area_of p → cell < length r.number.now
  cell_in cell h = omega (arith, a.floor)

  pub able : (cell from : ℕ) → cell < area_of p → from < length r.number.now → Able r.number.now r.place.now r.parent.now r.cost.now r.count cell from
  able cell from hc hf =
      let s = a.fit.sound in
      record {
        cell_in = cell_in cell hc;
        known = omega (arith, s.numbered cell, s.counts);
        spare = λ z. let l : filled r.number.now < length r.number.now = filled_lt r.number.now cell (cell_in cell hc) z in omega (arith, l, s.filling, s.counts);
        place_long = a.place_long;
        parent_long = a.parent_long;
        cost_long = a.cost_long;
        counted = a.counted;
        small = omega (arith, places_low);
        from_small = omega (arith, places_low);
      }

-- a node's number is below the number of places
pub count_le : (s : Nodes) → Sound s → length s.place ≤ length s.number
count_le s d = omega (arith, filled_le s.number, d.filling)

pub index_small : (c p k : ℕ) (s : Nodes) (r : Note) → r ≡ note_of c p k s → Sound s → c < length s.number → r.index < length s.number
index_small c p k s r e d h =
    let t = took c p k s d h in
    let i : r.index ≡ (note_of c p k s).index = ap (λ (x : Note). x.index) e in
    omega (arith, i, t.index_in, count_le (note_of c p k s).nodes t.sound, t.later.floor)

-- ---- an offer, by what recording says

module _ (limit h from c k : ℕ) (s : State) (r : Note) (e : r ≡ note_of c from k s.nodes) where
  pub offer_full : r.kept ≡ true → limit ≤ s.size → no Fringe ≡ offer_of limit h from c k s
  unfolding offer_of
  offer_full b l = rw (← e, b, le-ltb s.size limit l)

  pub offer_pushed : (x : List Entry) → r.kept ≡ true → s.size < limit → x ≡ push s.heap (entry (key_of (k + h) h) r.index) → ok (state r.nodes x (s.size + 1)) ≡ offer_of limit h from c k s
  unfolding offer_of
  offer_pushed x b l q = rw (← e, b, lt-ltb s.size limit l, q)

  pub offer_left : r.kept ≡ false → ok (state r.nodes s.heap s.size) ≡ offer_of limit h from c k s
  unfolding offer_of
  offer_left b = rw (← e, b)
