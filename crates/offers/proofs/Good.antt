-- A good state stays good: an offer, several things in order, a pop, the loop. Assumes nothing.
use mathlib.Core.Path.{◌≡◌, refl, ap, sym, ◌∙◌, subst}
use mathlib.Core.Bool.{Bool, true, false, cond}
use mathlib.Core.List.{List}
use mathlib.Core.Logic.{⊎_elim, ◌⊎◌, inl, inr}
use Prim.Native.Nat.{ℕ, zero, suc, ◌+◌, ◌-◌, ◌^◌, ◌<◌, ◌≤◌}
use native.Mathlib.Omega.{arith}
use lib.Dec.{ltb}
use borrow.Author.Tests.{ltb-true, ltb-false}
use lib.ListN.{length, get_or}
use Rattle.costs.specs.Limits.{most_depth}
use Rattle.goals.specs.declared.Plan.{Plan}
use Rattle.goals.specs.Goals.{most_side}
use Rattle.sifts.specs.declared.Entry.{Entry}
use Rattle.sifts.specs.Sifts.{entry, at}
use Rattle.fringe.specs.Fringe.{push, top}
use Rattle.fringe.specs.Order.{Each, Ordered}
use Rattle.keys.specs.Order.{Before}
use Rattle.fringe.proofs.Laws.{length_push, length_rest, each_push, each_rest, ordered_push, ordered_rest}
use Rattle.nodes.specs.Nodes.{Nodes, nodes, note_of, Later}
use Rattle.nodes.specs.Bound.{times, Hist, edge_of, places_of}
use Rattle.nodes.proofs.History.{hist_bound, hist_note, past_note, cost_fits, base_bound}
use Rattle.nodes.proofs.Laws.{took, Took, later_refl}
use Rattle.keys.specs.Keys.{key_of, cost_of}
use Rattle.keys.proofs.Order.{key_cost, top_first}
use Rattle.offers.specs.declared.Work.{Work}
use Rattle.points.specs.declared.Refusal.{Refusal}
use Rattle.points.specs.declared.Refusal.TheVariants.{Fringe}
use lib.IntN.{ℤ}
use Rattle.offers.specs.Search.{Ended, State, state, view, Out, ok, no, onward, offer_of, each, popped, visit_of, hit, on, to_turn, turn_of, Fit, Lent, Stays, Queued, Rising, Good, Next, Keeps, Expansion}
use Rattle.offers.proofs.Laws.{count_le}

-- two answers that are states are the same state
pub same_ok : (s t : State) → ok s ≡ ok t → s ≡ t
same_ok s t e = cc

pub never_no : {P : Type 0} (w : Refusal) (t : State) → no w ≡ ok t → P
never_no w t e = let z : ◌≡◌ {A = ℕ} 0 1 = cc in absurd (omega arith)

-- an offer that is not refused: recorded and pushed, or left as it was
pub offered_cases : (b l : Bool) (x y t : State) → cond b (cond l (ok x) (no Fringe)) (ok y) ≡ ok t → ((b ≡ true) × ((l ≡ true) × (x ≡ t))) ⊎ ((b ≡ false) × (y ≡ t))
offered_cases true true x y t e = inl (refl, (refl, same_ok x t e))
offered_cases true false x y t e = never_no Fringe t e
offered_cases false l x y t e = inr (refl, same_ok y t e)

-- entries stay what they are when recorded costs fall
queued_later : (bound : ℕ) (s t : Nodes) (e : Entry) → Later s t → Queued bound s e → Queued bound t e
queued_later bound s t e l q =
    record {
      known = omega (arith, q.known, l.more);
      low = q.low;
      above = omega (arith, q.above, l.falls e.index q.known);
      packed = q.packed;
    }

rising_later : (s t : Nodes) (p k : ℕ) → Later s t → Rising s p k → Rising t p k
rising_later s t p k l r = record { known = omega (arith, r.known, l.more); less = omega (arith, r.less, l.falls p r.known) }

module _ (n limit edge area h from c k b : ℕ) (s : State) (g : Good n limit edge area s) (hc : c < n) (ha : c < area) (hf : from < length s.nodes.place) (up : get_or s.nodes.cost from 0 ≤ b) (past : Hist edge b s.nodes) (above : b < k) (near : k ≤ b + edge) (hh : h < 2 ^ 23) (small : times edge n < 2 ^ 40) where
  hc' : c < length s.nodes.number
  hc' = omega (arith, g.floor)

  tk : Took c from k s.nodes (note_of c from k s.nodes)
  tk = took c from k s.nodes g.fit.sound hc'

  -- the nodes after recording, with any good fringe
  recorded : (l : List Entry) (m : ℕ) → length l ≡ m → m ≤ limit → Ordered l → Each (Queued (times edge n) (note_of c from k s.nodes).nodes) l → Good n limit edge area (state (note_of c from k s.nodes).nodes l m)
  recorded l m q r o w =
      record {
        fit = record { sound = tk.sound; sized = q; room = r };
        floor = tk.later.floor ∙ g.floor;
        started = omega (arith, g.started, tk.later.more);
        past = past_note edge b c from k s.nodes g.fit.sound hc' past above near g.past;
        rising = tk.each (λ i p q. 0 < i → Rising (note_of c from k s.nodes).nodes p q)
            (λ b pos. record { known = omega (arith, hf, tk.later.more); less = omega (arith, up, tk.later.falls from hf) })
            (λ i hi pos. rising_later s.nodes (note_of c from k s.nodes).nodes (get_or s.nodes.parent i 0) (get_or s.nodes.cost i 0) tk.later (g.rising i hi pos));
        landed = tk.places (λ i x. 0 < i → x < area) (λ pos. ha) g.landed;
        ordered = o;
        queued = w;
      }

  old : Each (Queued (times edge n) (note_of c from k s.nodes).nodes) s.heap
  old i hi = queued_later (times edge n) s.nodes (note_of c from k s.nodes).nodes (at s.heap i) tk.later (g.queued i hi)

  fresh : (note_of c from k s.nodes).kept ≡ true → Queued (times edge n) (note_of c from k s.nodes).nodes (entry (key_of (k + h) h) (note_of c from k s.nodes).index)
  fresh b' =
      let m : k + edge ≤ times edge (length (note_of c from k s.nodes).nodes.number) = hist_bound edge k (note_of c from k s.nodes).nodes (hist_note edge b c from k s.nodes g.fit.sound hc' past above near b') in
      let l : times edge (length (note_of c from k s.nodes).nodes.number) ≡ times edge n = ap (times edge) (tk.later.floor ∙ g.floor) in
      let q : cost_of (key_of (k + h) h) ≡ k + h - h = key_cost (k + h) h (omega arith) hh in
      record {
        known = tk.index_in;
        low = omega (arith, q);
        above = omega (arith, q, tk.cost_at b');
        packed = record { cost = k; guess = h; low = omega arith; near = hh; held = refl };
      }

  pub offer_next : (t : State) → offer_of limit h from c k s ≡ ok t → Next n limit edge area s t
  unfolding offer_of
  offer_next t e =
      ⊎_elim
      (λ w. subst (Next n limit edge area s) w.1.1
      (pushed w.0 (ltb-true s.size limit w.1.0)))
      (λ w. subst (Next n limit edge area s) w.1
      (record { good = recorded s.heap s.size g.fit.sized g.fit.room g.ordered old; later = tk.later }))
      (offered_cases (note_of c from k s.nodes).kept (ltb s.size limit) _ _ t e)
    where
      pushed : (note_of c from k s.nodes).kept ≡ true → s.size < limit → Next n limit edge area s (state (note_of c from k s.nodes).nodes (push s.heap (entry (key_of (k + h) h) (note_of c from k s.nodes).index)) (s.size + 1))
      pushed b l =
          record {
            good = recorded _ _ (length_push s.heap _ ∙ ap (λ (x : ℕ). x + 1) g.fit.sized) (omega arith) (ordered_push s.heap _ g.ordered)
                (each_push (Queued (times edge n) (note_of c from k s.nodes).nodes) s.heap _ (fresh b) old);
            later = tk.later;
          }

-- what the code needs of a state stays, whatever the costs
pub offer_fit : (limit h from c k : ℕ) (s t : State) → Fit limit s → c < length s.nodes.number → offer_of limit h from c k s ≡ ok t → Fit limit t
unfolding offer_of
offer_fit limit h from c k s t g hc e =
    ⊎_elim
    (λ w. subst (Fit limit) w.1.1 (pushed (ltb-true s.size limit w.1.0)))
    (λ w. subst (Fit limit) w.1 (record { sound = tk.sound; sized = g.sized; room = g.room }))
    (offered_cases (note_of c from k s.nodes).kept (ltb s.size limit) _ _ t e)
  where
    tk : Took c from k s.nodes (note_of c from k s.nodes)
    tk = took c from k s.nodes g.sound hc

    pushed : s.size < limit → Fit limit (state (note_of c from k s.nodes).nodes (push s.heap (entry (key_of (k + h) h) (note_of c from k s.nodes).index)) (s.size + 1))
    pushed l = record { sound = tk.sound; sized = length_push s.heap _ ∙ ap (λ (x : ℕ). x + 1) g.sized; room = omega arith }

pub offer_floor : (limit h from c k : ℕ) (s t : State) → Fit limit s → c < length s.nodes.number → offer_of limit h from c k s ≡ ok t → length t.nodes.number ≡ length s.nodes.number
unfolding offer_of
offer_floor limit h from c k s t g hc e =
    let l = (took c from k s.nodes g.sound hc).later.floor in
    ⊎_elim
    (λ w. subst (λ (x : State). length x.nodes.number ≡ length s.nodes.number) w.1.1 l)
    (λ w. subst (λ (x : State). length x.nodes.number ≡ length s.nodes.number) w.1 l)
    (offered_cases (note_of c from k s.nodes).kept (ltb s.size limit) _ _ t e)

-- several things in order
onward_ok : (o : Out) (f : State → Out) (t : State) (P : Type 0) → ((s : State) → o ≡ ok s → f s ≡ ok t → P) → onward o f ≡ ok t → P
onward_ok (ok s) f t P k e = k s refl e
onward_ok (no w) f t P k e = never_no w t e

pub each_keeps : (f : ℕ → State → Out) (P : State → Type 0) → ((d : ℕ) (s t : State) → d < 8 → P s → f d s ≡ ok t → P t) → (j d : ℕ) (s t : State) → d + j ≤ 8 → P s → each f j d s ≡ ok t → P t
unfolding each
each_keeps f P k zero d s t b h e = subst P (same_ok s t e) h
each_keeps f P k (suc j) d s t b h e =
    let bd : d < 8 = omega arith in
    let bj : d + 1 + j ≤ 8 = omega arith in
    onward_ok (f d s) (each f j (d + 1)) t (P t) (λ u a c. each_keeps f P k j (d + 1) u t bj (k d s u bd h a) c) e

-- a pop: the state that is left, and the entry that it gives
pub good_popped : (n limit edge area : ℕ) (s : State) → 0 < s.size → Good n limit edge area s → Good n limit edge area (popped s) × Queued (times edge n) s.nodes (top s.heap)
good_popped n limit edge area s pos g =
    let w = each_rest (Queued (times edge n) s.nodes) s.heap (omega (arith, g.fit.sized)) g.queued in (
      record {
        fit = record { sound = g.fit.sound; sized = length_rest s.heap ∙ ap (λ (x : ℕ). x - 1) g.fit.sized; room = omega (arith, g.fit.room) };
        floor = g.floor;
        started = g.started;
        past = g.past;
        rising = g.rising;
        landed = g.landed;
        ordered = ordered_rest s.heap g.ordered;
        queued = w.1;
      },
      w.0,
    )

-- the smallest estimate is popped, on a tie the larger cost
pub first_popped : (n limit edge area : ℕ) (s : State) → 0 < s.size → Good n limit edge area s → Each (λ x. Before x (top s.heap) → ⊥) s.heap
first_popped n limit edge area s pos g =
    top_first s.heap g.ordered (omega (arith, g.fit.sized)) (λ i h. (g.queued i h).packed)

-- every recorded cost, any that is offered from it, and the estimate of each stay under 2 ^ 31
pub costs_fit : (side depth n limit area : ℕ) (s : State) → side ≤ most_side → depth ≤ most_depth → n ≤ places_of side → Good n limit (edge_of side depth) area s
    → (i : ℕ) → i < length s.nodes.place → get_or s.nodes.cost i 0 + edge_of side depth + 2 ^ 23 < 2 ^ 31
costs_fit side depth n limit area s a b l g i h =
    let l' : length s.nodes.number ≤ places_of side = subst (λ (x : ℕ). x ≤ places_of side) (sym g.floor) l in
    cost_fits most_side most_depth (2 ^ 31) base_bound side depth (get_or s.nodes.cost i 0) s.nodes a b l' (g.past i h)

-- visiting the popped entry: it is expanded only if its cost is the recorded one
module _ (n limit edge area : ℕ) (s t : State) (g : Good n limit edge area s) where
  visit_pick : (b : Bool) (o : Out) → (b ≡ false → o ≡ ok t → Next n limit edge area s t) → cond b (ok s) o ≡ ok t → Next n limit edge area s t
  visit_pick true o f e = subst (Next n limit edge area s) (same_ok s t e) (record { good = g; later = later_refl s.nodes })
  visit_pick false o f e = f refl e

  pub visit_next : (exp : Expansion) → Keeps n limit edge area exp → (i k : ℕ) → i < length s.nodes.place → get_or s.nodes.cost i 0 ≤ k → visit_of exp i k s ≡ ok t → Next n limit edge area s t
  unfolding visit_of
  visit_next exp keeps i k hi up e =
      visit_pick (ltb (get_or s.nodes.cost i 0) k) (exp i k s)
      (λ b o. let l = ltb-false (get_or s.nodes.cost i 0) k b in keeps i k s t g hi (omega arith) o) e

-- a turn that goes on, or that ends at a goal
pub turn_cases : (b : Bool) (i k : ℕ) (s t : State) (o : Out) → cond b (hit i k s) (to_turn o) ≡ on t → o ≡ ok t
turn_cases true i k s t o e = let z : ◌≡◌ {A = ℕ} 0 1 = cc in absurd (omega arith)
turn_cases false i k s t (ok u) e = let z : u ≡ t = cc in ap ok z
turn_cases false i k s t (no w) e = let z : ◌≡◌ {A = ℕ} 0 1 = cc in absurd (omega arith)

hit_cases : (b : Bool) (i k j l : ℕ) (s t : State) (o : Out) → cond b (hit i k s) (to_turn o) ≡ hit j l t → (i ≡ j) × ((k ≡ l) × (s ≡ t))
hit_cases true i k j l s t o e = let a : i ≡ j = cc in let b : k ≡ l = cc in let d : s ≡ t = cc in (a, (b, d))
hit_cases false i k j l s t (ok u) e = let z : ◌≡◌ {A = ℕ} 0 1 = cc in absurd (omega arith)
hit_cases false i k j l s t (no w) e = let z : ◌≡◌ {A = ℕ} 0 1 = cc in absurd (omega arith)

module _ (n limit edge area : ℕ) (exp : Expansion) (goal : ℕ → Bool) (keeps : Keeps n limit edge area exp) (s : State) (g : Good n limit edge area s) (pos : 0 < s.size) where
  pub turn_next : (t : State) → on t ≡ turn_of exp goal (top s.heap) (popped s) → Next n limit edge area s t
  unfolding turn_of
  turn_next t e =
      let w = good_popped n limit edge area s pos g in
      let x = visit_next n limit edge area (popped s) t w.0 exp keeps (top s.heap).index (cost_of (top s.heap).key) w.1.known w.1.above
      (turn_cases (goal (get_or s.nodes.place (top s.heap).index 0)) (top s.heap).index (cost_of (top s.heap).key) (popped s) t _ (sym e)) in
      record { good = x.good; later = x.later }

  pub turn_end : (i k : ℕ) (t : State) → hit i k t ≡ turn_of exp goal (top s.heap) (popped s) → Ended n limit edge area i k t
  unfolding turn_of
  turn_end i k t e =
      let w = good_popped n limit edge area s pos g in
      let h = hit_cases (goal (get_or s.nodes.place (top s.heap).index 0)) (top s.heap).index (cost_of (top s.heap).key) i k (popped s) t (visit_of exp (top s.heap).index (cost_of (top s.heap).key) (popped s)) (sym e) in
      record {
        good = subst (Good n limit edge area) h.1.1 w.0;
        known = subst (λ (x : State). i < length x.nodes.place) h.1.1 (subst (λ (x : ℕ). x < length s.nodes.place) h.0 w.1.known);
        low = subst (λ (x : ℕ). x ≤ times edge n) h.1.0 w.1.low;
      }

-- the slices after a step: the sizes are the same, and the state is fit
pub lent_next : {goals : List ℤ} {p : Plan} {r : Work} → Lent goals p r → (s : Work) → Stays r s → Fit p.settings.fringe (view s) → Lent goals p s
lent_next a s q f =
    record {
      aimed = a.aimed;
      sides = a.sides;
      floor = q.number.1 ∙ a.floor;
      place_long = omega (arith, a.place_long, q.number.1, q.place.1);
      parent_long = omega (arith, a.parent_long, q.number.1, q.parent.1);
      cost_long = omega (arith, a.cost_long, q.number.1, q.cost.1);
      keys_long = omega (arith, a.keys_long, q.keys.1);
      idx_long = omega (arith, a.idx_long, q.idx.1);
      counted = omega (arith, f.sound.counts, count_le ((view s).nodes) f.sound);
      fit = f;
    }
