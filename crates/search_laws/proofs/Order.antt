-- The order of pops. The invariant, carried through the one induction over the passed states: the key of each entry is made of its cost and of the guess
-- at its node's place, which never changes; the start costs 0, so it is pushed once. The largest key is on top. Assumes nothing.
use mathlib.Core.Path.{◌≡◌, refl, ap, sym, ◌∙◌, subst}
use mathlib.Core.Bool.{true}
use mathlib.Core.List.{List, []}
use mathlib.Core.Logic.{⊎_elim, inl, inr}
use Prim.Native.Nat.{ℕ, ◌+◌, ◌-◌, ◌^◌, ◌<◌, ◌≤◌}
use native.Mathlib.Nat.{not-suc-le-zero}
use native.Mathlib.Omega.{arith}
use borrow.Author.Tests.{eq-eqb, ne_eqb}
use lib.Dec.{ltb}
use lib.IntN.{ℤ}
use lib.ListN.{length, get_or}
use Rattle.goals.specs.declared.Plan.{Plan}
use Rattle.sifts.specs.declared.Entry.{Entry}
use Rattle.fringe.specs.Fringe.{top}
use Rattle.sifts.specs.Sifts.{entry, at}
use Rattle.keys.specs.Keys.{key_of, cost_of}
use Rattle.fringe.specs.Order.{Each}
use Rattle.keys.specs.Order.{Packed}
use Rattle.keys.specs.Ties.{Fits}
use Rattle.fringe.proofs.Laws.{each_push, each_rest}
use Rattle.keys.proofs.Order.{key_before}
use Rattle.keys.proofs.Ties.{keys_tell}
use Rattle.nodes.specs.Nodes.{Nodes, Note, note_of, Later}
use Rattle.nodes.specs.Bound.{times}
use Rattle.nodes.proofs.Laws.{by_eq, by-lt, took, Took}
use Rattle.nodes.proofs.Places.{note_place}
use Rattle.offers.specs.Search.{State, Out, ok, no, offer_of, guess_at, area_of, on, popped, begin, Fit}
use Rattle.offers.specs.Passed.{turn_in}
use Rattle.offers.proofs.Good.{offered_cases, offer_fit, offer_floor, good_popped, first_popped, turn_next}
use Rattle.offers.proofs.Laws.{guess_low}
use Rattle.offers.proofs.Start.{begin_good, begin_free}
use Rattle.offers.proofs.Passed.{passed_all, turn_on}
use Rattle.expansion.specs.Expand.{Tables}
use Rattle.expansion.specs.Start.{yield_of}
use Rattle.search.specs.Loop.{Legal, GoodIn, edge_in, goal_of}
use Rattle.search.proofs.Laws.{yields_good}
use Rattle.search_laws.specs.Order.{cost_in, estimate_in, GoesFirst, PopsInOrder, EveryPop}
use Rattle.search_laws.proofs.Sums.{no_other, Beyond, reaches_beyond}
use Rattle.search_laws.proofs.Costs.{one_more}

-- an entry's key is made of a cost and a guess: 0 and 0 for the start, else the guess at the node's place
record Tied (goals : List ℤ) (p : Plan) (s : Nodes) (e : Entry) : Type 0 where
  known : e.index < length s.place
  cost : ℕ
  guess : ℕ
  fits : Fits cost guess
  held : e.key ≡ key_of (cost + guess) guess
  start : e.index ≡ 0 → (cost ≡ 0) × (guess ≡ 0)
  other : (e.index ≡ 0 → ⊥) → guess ≡ guess_at goals p (get_or s.place e.index 0)

-- a place never changes
tied_later : (goals : List ℤ) (p : Plan) (s u : Nodes) (e : Entry) → Later s u → Tied goals p s e → Tied goals p u e
tied_later goals p s u e l d =
    record {
      known = omega (arith, d.known, l.more);
      cost = d.cost;
      guess = d.guess;
      fits = d.fits;
      held = d.held;
      start = d.start;
      other = λ z. d.other z ∙ ap (guess_at goals p) (sym (l.stays e.index d.known));
    }

-- what an offer, and so an expansion, keeps
record Kept (goals : List ℤ) (p : Plan) (s : State) : Type 0 where
  fit : Fit p.settings.fringe s
  floor : length s.nodes.number ≡ area_of p + 1
  started : 0 < length s.nodes.place
  free : get_or s.nodes.cost 0 0 ≡ 0
  tied : Each (Tied goals p s.nodes) s.heap

module _ (goals : List ℤ) (p : Plan) (i c k : ℕ) (u : State) (d : Kept goals p u) (inside : c < area_of p) (pos : 0 < k) (fits : Fits k (guess_at goals p c)) where
  note : Note
  note = note_of c i k u.nodes

  on_floor : c < length u.nodes.number
  on_floor = omega (arith, d.floor)

  tk : Took c i k u.nodes note
  unfolding note
  tk = took c i k u.nodes d.fit.sound on_floor

  -- the start is not cheaper than free
  new_node : note.kept ≡ true → note.index ≡ 0 → ⊥
  new_node b z =
      let l : note.index < length u.nodes.place = omega (arith, d.started) in
      omega (arith, tk.less b l, ap (λ (x : ℕ). get_or u.nodes.cost x 0) z, d.free)

  fresh : note.kept ≡ true → Tied goals p note.nodes (entry (key_of (k + guess_at goals p c) (guess_at goals p c)) note.index)
  fresh b =
      record {
        known = tk.index_in;
        cost = k;
        guess = guess_at goals p c;
        fits = fits;
        held = refl;
        start = λ z. absurd (new_node b z);
        other = λ z. ap (guess_at goals p) (sym (unfold note in note_place c i k u.nodes d.fit.sound));
      }

  old : Each (Tied goals p note.nodes) u.heap
  old j h = tied_later goals p u.nodes note.nodes (at u.heap j) tk.later (d.tied j h)

  tied_next : (v : State) → offer_of p.settings.fringe (guess_at goals p c) i c k u ≡ ok v → (v.nodes ≡ note.nodes) × Each (Tied goals p v.nodes) v.heap
  unfolding offer_of note
  tied_next v e =
      ⊎_elim
      (λ w. subst (λ (x : State). (x.nodes ≡ note.nodes) × Each (Tied goals p x.nodes) x.heap) w.1.1
      (refl, each_push (Tied goals p note.nodes) u.heap _ (fresh w.0) old))
      (λ w. subst (λ (x : State). (x.nodes ≡ note.nodes) × Each (Tied goals p x.nodes) x.heap) w.1 (refl, old))
      (offered_cases (note_of c i k u.nodes).kept (ltb u.size p.settings.fringe) _ _ v e)

  kept_next : (v : State) → offer_of p.settings.fringe (guess_at goals p c) i c k u ≡ ok v → Kept goals p v
  kept_next v e =
      let w = tied_next v e in
      let l : Later u.nodes v.nodes = subst (Later u.nodes) (sym w.0) tk.later in
      record {
        fit = offer_fit p.settings.fringe (guess_at goals p c) i c k u v d.fit on_floor e;
        floor = offer_floor p.settings.fringe (guess_at goals p c) i c k u v d.fit on_floor e ∙ d.floor;
        started = omega (arith, d.started, l.more);
        free = omega (arith, l.falls 0 d.started, d.free);
        tied = w.1;
      }

-- an expansion keeps it, whatever it comes to
abbrev KeptOut : List ℤ → Plan → Out → Type 0
KeptOut goals p (ok u) = Kept goals p u
KeptOut goals p (no w) = Unit

module _ (t : Tables) (p : Plan) (l : Legal t.goals p) where
  yield_kept : (i k : ℕ) (s : State) → GoodIn p s → Kept t.goals p s → i < length s.nodes.place → k ≤ times (edge_in p) (area_of p + 1) → KeptOut t.goals p (yield_of t p i k s)
  yield_kept i k s g d hi low =
      no_other t p i k s (KeptOut t.goals p) d tt (λ q. tt)
      (λ c sum u r x. offered c sum u (reaches_beyond t p s l g i k hi r) x (offer_of p.settings.fringe (guess_at t.goals p c) i c sum u) refl)
    where
      offered : (c sum : ℕ) (u : State) → Beyond p k c sum → Kept t.goals p u → (o : Out) → offer_of p.settings.fringe (guess_at t.goals p c) i c sum u ≡ o → KeptOut t.goals p o
      offered c sum u b x (ok v) e =
          let near : guess_at t.goals p c < 2 ^ 23 = guess_low t.goals p c l.aimed l.sides b.inside in
          kept_next t.goals p i c sum u x b.inside (omega (arith, b.more)) (record { low = omega (arith, near, b.near, low, one_more t p l); near = near }) v e
      offered c sum u b x (no w) e = tt

  -- a pop keeps it
  popped_kept : (s : State) → 0 < s.size → GoodIn p s → Kept t.goals p s → Kept t.goals p (popped s)
  popped_kept s pos g d =
      record {
        fit = (good_popped (area_of p + 1) p.settings.fringe (edge_in p) (area_of p) s pos g).0.fit;
        floor = d.floor;
        started = d.started;
        free = d.free;
        tied = (each_rest (Tied t.goals p s.nodes) s.heap (omega (arith, g.fit.sized)) d.tied).1;
      }

  -- and so does a turn
  turn_kept : (s u : State) → GoodIn p s × Kept t.goals p s → 0 < s.size → on u ≡ turn_in (yield_of t p) (goal_of t.goals p) s → GoodIn p u × Kept t.goals p u
  turn_kept s u a pos e =
      let w = good_popped (area_of p + 1) p.settings.fringe (edge_in p) (area_of p) s pos a.0 in
      let d = popped_kept s pos a.0 a.1 in (
        (turn_next (area_of p + 1) p.settings.fringe (edge_in p) (area_of p) (yield_of t p) (goal_of t.goals p) (yields_good t p l) s a.0 pos u e).good,
        turn_on (yield_of t p) (goal_of t.goals p) (Kept t.goals p) s u d
            (λ q. subst (KeptOut t.goals p) q (yield_kept (top s.heap).index (cost_of (top s.heap).key) (popped s) w.0 d w.1.known w.1.low))
            e,
      )

  -- where the search begins
  begin_kept : (start : ℕ) → GoodIn p (begin (area_of p + 1) start) → Kept t.goals p (begin (area_of p + 1) start)
  unfolding begin
  begin_kept start g =
      record {
        fit = g.fit;
        floor = g.floor;
        started = g.started;
        free = begin_free (area_of p + 1) start;
        tied = each_push (Tied t.goals p (begin (area_of p + 1) start).nodes) [] (entry (key_of 0 0) 0)
            (record {
              known = g.started;
              cost = 0;
              guess = 0;
              fits = record { low = omega arith; near = omega arith };
              held = refl;
              start = λ z. (refl, refl);
              other = λ z. absurd (z refl);
            })
            (λ i h. absurd (not-suc-le-zero h));
      }

-- ---- what the invariant says

module _ (goals : List ℤ) (p : Plan) (s : Nodes) (e : Entry) (d : Tied goals p s e) where
  cost_is : cost_in e ≡ d.cost
  cost_is = ap cost_of d.held ∙ (keys_tell d.cost d.guess d.cost d.guess d.fits d.fits).cost

  estimate_is : estimate_in goals p s e ≡ d.cost + d.guess
  estimate_is =
      by_eq e.index 0
      (λ z. let q = d.start z in rw (eq-eqb e.index 0 z) (omega (arith, q.0, q.1)))
      (λ z. rw (ne_eqb e.index 0 z) (omega (arith, cost_is, d.other z)))

  packed : Packed e
  packed = record { cost = d.cost; guess = d.guess; low = d.fits.low; near = d.fits.near; held = d.held }

  key_made : e.key ≡ key_of (estimate_in goals p s e) (estimate_in goals p s e - cost_in e)
  key_made =
      let z : d.guess ≡ estimate_in goals p s e - cost_in e = omega (arith, estimate_is, cost_is) in
      d.held ∙ ap (λ (x : ℕ). key_of x d.guess) (sym estimate_is) ∙ ap (key_of (estimate_in goals p s e)) z

-- an entry whose key is no larger
goes_first : (goals : List ℤ) (p : Plan) (s : Nodes) (a b : Entry) → Tied goals p s a → Tied goals p s b → b.key ≤ a.key → GoesFirst (estimate_in goals p s) a b
goes_first goals p s a b d f l =
    ⊎_elim less tied
    ((keys_tell d.cost d.guess f.cost f.guess d.fits f.fits).above (omega (arith, l, d.held, f.held)))
  where
    less : d.cost + d.guess < f.cost + f.guess → GoesFirst (estimate_in goals p s) a b
    less q = inl (omega (arith, q, estimate_is goals p s a d, estimate_is goals p s b f))

    tied : (d.cost + d.guess ≡ f.cost + f.guess) × (f.cost ≤ d.cost) → GoesFirst (estimate_in goals p s) a b
    tied q = inr (omega (arith, q.0, estimate_is goals p s a d, estimate_is goals p s b f), omega (arith, q.1, cost_is goals p s a d, cost_is goals p s b f))

kept_order : (t : Tables) (p : Plan) (s : State) → GoodIn p s → Kept t.goals p s → PopsInOrder t.goals p s
unfolding top
kept_order t p s g d =
    record {
      waits = λ i h. record { node = (d.tied i h).known; cost = (g.queued i h).above; made = key_made t.goals p s.nodes (at s.heap i) (d.tied i h) };
      first = λ pos i h.
          let z : 0 < length s.heap = omega (arith, g.fit.sized) in
          goes_first t.goals p s.nodes (at s.heap 0) (at s.heap i) (d.tied 0 z) (d.tied i h)
          (by-lt (at s.heap 0).key (at s.heap i).key
          (λ q. absurd (first_popped (area_of p + 1) p.settings.fringe (edge_in p) (area_of p) s pos g i h
          (key_before (at s.heap i) (at s.heap 0) (packed t.goals p s.nodes (at s.heap i) (d.tied i h)) (packed t.goals p s.nodes (at s.heap 0) (d.tied 0 z)) q)))
          (λ q. q));
    }

-- LAW: THE ORDER
pub every_pop : EveryPop
every_pop t p start l h m s a =
    let h' : start < area_of p + 1 = omega arith in
    let g = begin_good p.settings.fringe (edge_in p) (area_of p) (area_of p + 1) start l.fringe h' in
    let w = passed_all (yield_of t p) (goal_of t.goals p) (area_of p + 1) start (λ x. GoodIn p x × Kept t.goals p x) (g, begin_kept t p l start g) (turn_kept t p l) a in
    kept_order t p s w.0 w.1
