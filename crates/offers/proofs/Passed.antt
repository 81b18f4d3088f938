-- The one induction over the states that a search passes, over any expansion and any goal test; and what each reply comes from. Assumes nothing.
use mathlib.Core.Path.{◌≡◌, refl, ap, sym, subst}
use mathlib.Core.Bool.{Bool, true, false, cond}
use Prim.Native.Nat.{ℕ, zero, suc, ◌+◌, ◌<◌, ◌≤◌}
use native.Mathlib.Nat.{le_refl}
use native.Mathlib.Omega.{arith}
use lib.Dec.{leb, ltb}
use lib.ListN.{get_or}
use borrow.Author.Tests.{leb-true, leb-false}
use Rattle.points.specs.declared.Refusal.{Refusal}
use Rattle.points.specs.declared.Refusal.TheVariants.{Exhausted, Pops}
use Rattle.fringe.specs.Fringe.{top}
use Rattle.keys.specs.Keys.{cost_of}
use Rattle.offers.specs.Search.{State, Expansion, Out, ok, no, Turn, hit, on, halt, to_turn, visit_of, turn_of, popped, going, run, begin, search_of, Reply, found, refused, Good, Ended, Keeps}
use Rattle.offers.specs.Passed.{turn_in, Passed, first, next, Popped, Emptied, Spent, Why, emptied, spent, halted, Reason, pops_of, Leaves}
use Rattle.offers.proofs.Good.{same_ok, turn_cases, turn_next, turn_end}
use Rattle.offers.proofs.Start.{begin_good}

-- a turn that the expansion refused
halt_cases : {P : Type 0} (b : Bool) (i k : ℕ) (s : State) (o : Out) (w : Refusal) → (o ≡ no w → P) → halt w ≡ cond b (hit i k s) (to_turn o) → P
halt_cases true i k s o w f e = let z : ◌≡◌ {A = ℕ} 0 1 = cc in absurd (omega arith)
halt_cases false i k s (ok u) w f e = let z : ◌≡◌ {A = ℕ} 0 1 = cc in absurd (omega arith)
halt_cases false i k s (no v) w f e = let z : v ≡ w = cc in f (ap no z)

visit_no : (b : Bool) (s : State) (o : Out) (w : Refusal) → cond b (ok s) o ≡ no w → o ≡ no w
visit_no true s o w e = let z : ◌≡◌ {A = ℕ} 0 1 = cc in absurd (omega arith)
visit_no false s o w e = e

visit_ok : (P : State → Type 0) (b : Bool) (s : State) (o : Out) (u : State) → P s → (o ≡ ok u → P u) → cond b (ok s) o ≡ ok u → P u
visit_ok P true s o u p f e = subst P (same_ok s u e) p
visit_ok P false s o u p f e = f e

module _ (exp : Expansion) (goal : ℕ → Bool) where
  -- LAW: what holds of a state without its top entry, and of what expanding the popped node at the popped cost leaves, holds of what a turn leaves
  pub turn_on : (P : State → Type 0) (s u : State) → P (popped s) → (exp (top s.heap).index (cost_of (top s.heap).key) (popped s) ≡ ok u → P u)
      → on u ≡ turn_in exp goal s → P u
  unfolding turn_of visit_of
  turn_on P s u p f e =
      visit_ok P (ltb (get_or s.nodes.cost (top s.heap).index 0) (cost_of (top s.heap).key)) (popped s)
      (exp (top s.heap).index (cost_of (top s.heap).key) (popped s)) u p f
      (turn_cases (goal (get_or s.nodes.place (top s.heap).index 0)) (top s.heap).index (cost_of (top s.heap).key) (popped s) u
      (visit_of exp (top s.heap).index (cost_of (top s.heap).key) (popped s)) (sym e))

  -- LAW: a turn that halts is a refusal of the expansion, of the popped node at the popped cost
  pub turn_halt : (s : State) (w : Refusal) → halt w ≡ turn_in exp goal s → exp (top s.heap).index (cost_of (top s.heap).key) (popped s) ≡ no w
  unfolding turn_of visit_of
  turn_halt s w e =
      halt_cases (goal (get_or s.nodes.place (top s.heap).index 0)) (top s.heap).index (cost_of (top s.heap).key) (popped s)
      (visit_of exp (top s.heap).index (cost_of (top s.heap).key) (popped s)) w
      (λ q. visit_no (ltb (get_or s.nodes.cost (top s.heap).index 0) (cost_of (top s.heap).key)) (popped s) (exp (top s.heap).index (cost_of (top s.heap).key) (popped s)) w q)
      e

module _ (exp : Expansion) (goal : ℕ → Bool) (n start : ℕ) where
  -- LAW: what holds where a search begins, and is kept by each turn from which it goes on, holds of every state that it passes
  pub passed_all : (P : State → Type 0) → P (begin n start) → ((s u : State) → P s → 0 < s.size → on u ≡ turn_in exp goal s → P u)
      → {m : ℕ} {s : State} → Passed exp goal n start m s → P s
  passed_all P b k first = b
  passed_all P b k (next s a pos e) = k s _ (passed_all P b k a) pos e

  module _ (limit : ℕ) where
    -- an empty fringe, or what the loop does with one that is not
    by_size : (m : ℕ) (s : State) (r : Reply) → m ≤ limit → Passed exp goal n start m s → (0 < s.size → Reason exp goal n start limit r)
        → (b : Bool) → leb s.size 0 ≡ b → Reason exp goal n start limit (cond b (refused Exhausted m) r)
    by_size m s r l a f true e = emptied refl (record { from = s; passed = a; none = leb-true s.size 0 e; within = l })
    by_size m s r l a f false e = f (leb-false s.size 0 e)

    -- a turn, by what it came to
    by_turn : (m : ℕ) (s : State) → m + 1 ≤ limit → Passed exp goal n start m s → 0 < s.size → (f : State → Reply) → ((u : State) → on u ≡ turn_in exp goal s → Reason exp goal n start limit (f u))
        → (x : Turn) → x ≡ turn_in exp goal s → Reason exp goal n start limit (going x f (m + 1))
    by_turn m s l a pos f g (hit i k t) e = record { before = m; from = s; passed = a; some = pos; turn = e; count = refl; within = l }
    by_turn m s l a pos f g (on u) e = g u e
    by_turn m s l a pos f g (halt w) e = halted (record { before = m; from = s; passed = a; some = pos; turn = e; count = refl; within = l })

    -- the loop's fuel is the pops that are left
    run_reason : (left m : ℕ) (s : State) → m + left ≡ limit → Passed exp goal n start m s → Reason exp goal n start limit (run exp goal left m s)
    unfolding run
    run_reason zero m s q a =
        let all : m ≡ limit = omega arith in
        let l : m ≤ limit = omega arith in
        by_size m s (refused Pops m) l a (λ pos. spent refl (record { from = s; passed = a; some = pos; all = all })) (leb s.size 0) refl
    run_reason (suc left) m s q a =
        let l : m ≤ limit = omega arith in
        let l' : m + 1 ≤ limit = omega arith in
        let q' : m + 1 + left ≡ limit = omega arith in
        by_size m s (going (turn_in exp goal s) (run exp goal left (m + 1)) (m + 1)) l a
        (λ pos. by_turn m s l' a pos (run exp goal left (m + 1)) (λ u e. run_reason left (m + 1) u q' (next s a pos e)) (turn_in exp goal s) refl)
        (leb s.size 0) refl

    -- LAW: what the reply of a search comes from
    pub search_reason : Reason exp goal n start limit (search_of exp goal limit n start)
    unfolding search_of
    search_reason = let z : 0 + limit ≡ limit = omega arith in run_reason limit 0 (begin n start) z first

    -- LAW: found comes from a turn that hit, of a passed state that is not empty
    pub found_popped : (i k m : ℕ) (t : State) → found i k m t ≡ search_of exp goal limit n start → Popped exp goal n start limit m (hit i k t)
    found_popped i k m t e = subst (Reason exp goal n start limit) (sym e) search_reason

    -- LAW: a refusal comes from an empty fringe, from the last pop allowed, or from the expansion
    pub refused_why : (w : Refusal) (m : ℕ) → refused w m ≡ search_of exp goal limit n start → Why exp goal n start limit w m
    refused_why w m e = subst (Reason exp goal n start limit) (sym e) search_reason

    reason_within : (r : Reply) → Reason exp goal n start limit r → pops_of r ≤ limit
    reason_within (found i k m t) a = a.within
    reason_within (refused w m) (emptied q a) = a.within
    reason_within (refused w m) (spent q a) = rw a.all (le_refl limit)
    reason_within (refused w m) (halted a) = a.within

    -- LAW: a reply tells at most as many pops as are allowed
    pub pops_within : pops_of (search_of exp goal limit n start) ≤ limit
    pops_within = reason_within (search_of exp goal limit n start) search_reason

    module _ (leaves : Leaves exp) (m : ℕ) where
      -- LAW: EXHAUSTED comes from a passed state with an empty fringe
      pub exhausted_emptied : refused Exhausted m ≡ search_of exp goal limit n start → Emptied exp goal n start limit m
      exhausted_emptied e = go (refused_why Exhausted m e)
        where
          go : Why exp goal n start limit Exhausted m → Emptied exp goal n start limit m
          go (emptied q a) = a
          go (spent q a) = let z : ◌≡◌ {A = ℕ} 0 1 = cc in absurd (omega arith)
          go (halted a) = absurd ((leaves _ _ _).0 (turn_halt exp goal a.from Exhausted a.turn))

      -- LAW: POPS comes only after as many pops as are allowed
      pub pops_spent : refused Pops m ≡ search_of exp goal limit n start → Spent exp goal n start limit m
      pops_spent e = go (refused_why Pops m e)
        where
          go : Why exp goal n start limit Pops m → Spent exp goal n start limit m
          go (emptied q a) = let z : ◌≡◌ {A = ℕ} 0 1 = cc in absurd (omega arith)
          go (spent q a) = a
          go (halted a) = absurd ((leaves _ _ _).1 (turn_halt exp goal a.from Pops a.turn))

  -- an expansion that keeps good states good
  module _ (fringe edge area : ℕ) (keeps : Keeps n fringe edge area exp) (some : 1 ≤ fringe) (inside : start < n) where
    -- LAW: every state that the search passes is good
    pub passed_good : {m : ℕ} {s : State} → Passed exp goal n start m s → Good n fringe edge area s
    passed_good =
        passed_all (Good n fringe edge area) (begin_good fringe edge area n start some inside)
        (λ s u g pos e. (turn_next n fringe edge area exp goal keeps s g pos u e).good)

    -- LAW: a goal that is found is a node of a good state
    pub found_ended : (limit i k m : ℕ) (t : State) → found i k m t ≡ search_of exp goal limit n start → Ended n fringe edge area i k t
    found_ended limit i k m t e =
        let a = found_popped limit i k m t e in
        turn_end n fringe edge area exp goal keeps a.from (passed_good a.passed) a.some i k t a.turn
