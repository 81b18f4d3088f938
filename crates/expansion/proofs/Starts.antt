-- What each node yields; and the expansion of every node keeps a good state good. Assumes nothing.
use mathlib.Core.Path.{◌≡◌, refl, ◌∙◌, subst}
use mathlib.Core.List.{List}
use Prim.Native.Nat.{ℕ, zero, suc, ◌+◌, ◌-◌, ◌*◌, ◌^◌, ◌<◌, ◌≤◌}
use native.Mathlib.Nat.{le_refl, mul-le-mul}
use native.Mathlib.Omega.{arith}
use lib.ListN.{length, get_or}
use lib.Seq.{get_or-take}
use Rattle.goals.specs.declared.Plan.{Plan}
use Rattle.goals.specs.Goals.{Aimed}
use Rattle.nodes.specs.Bound.{Hist, times, edge_of}
use Rattle.nodes.proofs.Laws.{by_eq, later_refl, later_trans}
use Rattle.nodes.proofs.History.{hist_later}
use Rattle.offers.specs.declared.Work.{Work}
use Rattle.offers.specs.Search.{State, ok, view, area_of, guess_at, Sides, Good, Next, Keeps}
use Rattle.offers.proofs.Laws.{guess_low}
use Rattle.offers.proofs.Good.{offer_next, each_keeps}
use Rattle.stops.specs.Stops.{price_of}
use Rattle.starts.specs.Start.{toward_of}
use Rattle.starts.proofs.Starts.{toward_keeps}
use Rattle.std.specs.Prelude.{Some}
use Rattle.successors.specs.Successors.{parent_of}
use Rattle.successors.proofs.Laws.{parent_some}
use Rattle.expansion.specs.Expand.{Tables, leap_from, leap_of}
use Rattle.expansion.specs.Start.{spread_of, yield_of}
use Rattle.expansion.proofs.Leaps.{leap_next}

-- each node's own expansion
pub yield_start : (t : Tables) (p : Plan) (i k : ℕ) (s : State) → i ≡ 0 → spread_of t.blocked t.goals p i k s ≡ yield_of t p i k s
unfolding yield_of
yield_start t p i k s e = rw e

pub yield_leap : (t : Tables) (p : Plan) (i k : ℕ) (s : State) → (i ≡ 0 → ⊥) → leap_of t p i k s ≡ yield_of t p i k s
unfolding yield_of leap_of
yield_leap t p zero k s e = absurd (e refl)
yield_leap t p (suc i) k s e = refl

-- a node whose parent the slices hold
pub yield_up : (t : Tables) (p : Plan) (i up k : ℕ) (r : Work) → i < r.count → Some up ≡ parent_of r.parent.now i
    → leap_from t p up i k (view r) ≡ yield_of t p i k (view r)
unfolding yield_of
yield_up t p zero up k r h e = let z : ◌≡◌ {A = ℕ} 0 1 = cc in absurd (omega arith)
yield_up t p (suc i) up k r h e = rw (get_or-take r.count r.parent.now (suc i) 0 h, ← (parent_some r.parent.now (suc i) up e).1)

-- over any side of at least 2, for an outside start's first step
module _ (t : Tables) (p : Plan) (n side : ℕ) (aimed : Aimed t.goals p) (sides : Sides p) (wide : p.w ≤ side) (high : p.h ≤ side) (two : 2 ≤ side) (floor : n ≡ area_of p + 1)
    (low : times (edge_of side p.settings.depth) n < 2 ^ 40) where
  abbrev edge : ℕ
  edge = edge_of side p.settings.depth

  -- an edge is at least one step
  step_le : 99 ≤ edge
  step_le =
      let a : 1 ≤ p.settings.depth + 1 = omega arith in
      let b : 99 ≤ (side - 1) * 99 = omega arith in
      mul-le-mul {n₁ = 1} {m₁ = 99} {n₂ = p.settings.depth + 1} {m₂ = (side - 1) * 99} a b

  spread_next : (i k : ℕ) (s u : State) → Good n p.settings.fringe edge (area_of p) s → i < length s.nodes.place → get_or s.nodes.cost i 0 ≡ k → spread_of t.blocked t.goals p i k s ≡ ok u → Next n p.settings.fringe edge (area_of p) s u
  unfolding spread_of
  spread_next i k s u g hi hk e =
      let old : Hist edge k s.nodes = subst (λ (x : ℕ). Hist edge x s.nodes) hk (g.past i hi) in
      each_keeps (toward_of t.blocked t.goals p i k) (Next n p.settings.fringe edge (area_of p) s)
      (λ d v w hd x.
      toward_keeps t.blocked t.goals p i k d v (Next n p.settings.fringe edge (area_of p) s) w x
      (λ c q z.
      let l = x.later in
      let hc : c < n = omega arith in
      let hf : i < length v.nodes.place = omega (arith, l.more) in
      let up : get_or v.nodes.cost i 0 ≤ k = omega (arith, l.falls i hi) in
      let lo : k < k + price_of d = omega arith in
      let near : k + price_of d ≤ k + edge = omega (arith, step_le) in
      let y = offer_next n p.settings.fringe edge (area_of p) (guess_at t.goals p c) i c (k + price_of d) k v x.good hc q hf up
      (hist_later edge k s.nodes v.nodes l old) lo near (guess_low t.goals p c aimed sides q) low w z in
      record { good = y.good; later = later_trans s.nodes v.nodes w.nodes l y.later }))
      8 0 s u (le_refl 8) (record { good = g; later = later_refl s.nodes }) e

  pub yield_keeps : Keeps n p.settings.fringe edge (area_of p) (yield_of t p)
  yield_keeps i k s u g hi hk e =
      by_eq i 0
      (λ z. spread_next i k s u g hi hk (yield_start t p i k s z ∙ e))
      (λ z. leap_next t p n side aimed sides wide high floor low i k s u g hi (omega arith) hk (yield_leap t p i k s z ∙ e))
