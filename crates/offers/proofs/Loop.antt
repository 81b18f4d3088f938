-- The loop's turns, one equation each. Assumes nothing.
use mathlib.Core.Path.{◌≡◌, ap, ◌∙◌}
use mathlib.Core.Bool.{Bool, true, false}
use Prim.Native.Nat.{ℕ, zero, suc, ◌+◌, ◌-◌, ◌<◌, ◌≤◌}
use native.Mathlib.Omega.{arith}
use borrow.Author.Tests.{le-leb, lt-leb, lt-ltb, le-ltb}
use lib.ListN.{get_or}
use Rattle.sifts.specs.declared.Entry.{Entry}
use Rattle.fringe.specs.Fringe.{top}
use Rattle.keys.specs.Keys.{cost_of}
use Rattle.points.specs.declared.Refusal.{Refusal}
use Rattle.points.specs.declared.Refusal.TheVariants.{Exhausted, Pops}
use Rattle.offers.specs.Search.{State, Out, ok, no, onward, each, popped, visit_of, Turn, hit, on, halt, to_turn, turn_of, going, run, found, refused, Expansion}

-- the things from d on: one more, a refusal, the end
module _ (f : ℕ → State → Out) (d : ℕ) (s : State) where
  each_suc : d < 8 → each f (8 - d) d s ≡ onward (f d s) (each f (8 - (d + 1)) (d + 1))
  unfolding each
  each_suc h = let z : 8 - d ≡ suc (8 - (d + 1)) = omega arith in rw z

  pub each_on : (t : State) → d < 8 → ok t ≡ f d s → each f (8 - (d + 1)) (d + 1) t ≡ each f (8 - d) d s
  each_on t h p = rw (each_suc h, ← p)

  pub each_stop : (w : Refusal) → d < 8 → no w ≡ f d s → no w ≡ each f (8 - d) d s
  each_stop w h p = rw (each_suc h, ← p)

  pub each_end : 8 ≤ d → ok s ≡ each f (8 - d) d s
  unfolding each
  each_end h = let z : 8 - d ≡ 0 = omega arith in rw z

module _ (exp : Expansion) (i k : ℕ) (s : State) where
  pub visit_skip : get_or s.nodes.cost i 0 < k → ok s ≡ visit_of exp i k s
  unfolding visit_of
  visit_skip h = rw (lt-ltb (get_or s.nodes.cost i 0) k h)

  pub visit_go : k ≤ get_or s.nodes.cost i 0 → exp i k s ≡ visit_of exp i k s
  unfolding visit_of
  visit_go h = rw (le-ltb (get_or s.nodes.cost i 0) k h)

module _ (exp : Expansion) (goal : ℕ → Bool) (left pops : ℕ) (s : State) where
  pub run_empty : s.size ≤ 0 → refused Exhausted pops ≡ run exp goal left pops s
  unfolding run
  run_empty h = go left
    where
      go : (f : ℕ) → refused Exhausted pops ≡ run exp goal f pops s
      go zero = rw (le-leb s.size 0 h)
      go (suc f) = rw (le-leb s.size 0 h)

  pub run_spent : 0 < s.size → left ≡ 0 → refused Pops pops ≡ run exp goal left pops s
  unfolding run
  run_spent h z = rw (z, lt-leb s.size 0 h)

  run_suc : (f : ℕ) → 0 < s.size → going (turn_of exp goal (top s.heap) (popped s)) (run exp goal f (pops + 1)) (pops + 1) ≡ run exp goal (suc f) pops s
  unfolding run
  run_suc f h = rw (lt-leb s.size 0 h)

  run_turn : 0 < s.size → 0 < left → going (turn_of exp goal (top s.heap) (popped s)) (run exp goal (left - 1) (pops + 1)) (pops + 1) ≡ run exp goal left pops s
  run_turn h l = let z : suc (left - 1) ≡ left = omega arith in run_suc (left - 1) h ∙ ap (λ (x : ℕ). run exp goal x pops s) z

  -- a turn, by what it came to
  module _ (h : 0 < s.size) (l : 0 < left) where
    pub run_hit : (i k : ℕ) (t : State) → hit i k t ≡ turn_of exp goal (top s.heap) (popped s) → found i k (pops + 1) t ≡ run exp goal left pops s
    run_hit i k t e = ap (λ (x : Turn). going x (run exp goal (left - 1) (pops + 1)) (pops + 1)) e ∙ run_turn h l

    pub run_on : (t : State) → on t ≡ turn_of exp goal (top s.heap) (popped s) → run exp goal (left - 1) (pops + 1) t ≡ run exp goal left pops s
    run_on t e = ap (λ (x : Turn). going x (run exp goal (left - 1) (pops + 1)) (pops + 1)) e ∙ run_turn h l

    pub run_halt : (w : Refusal) → halt w ≡ turn_of exp goal (top s.heap) (popped s) → refused w (pops + 1) ≡ run exp goal left pops s
    run_halt w e = ap (λ (x : Turn). going x (run exp goal (left - 1) (pops + 1)) (pops + 1)) e ∙ run_turn h l

module _ (exp : Expansion) (goal : ℕ → Bool) (e : Entry) (s : State) where
  pub turn_hit : goal (get_or s.nodes.place e.index 0) ≡ true → hit e.index (cost_of e.key) s ≡ turn_of exp goal e s
  unfolding turn_of
  turn_hit g = rw g

  module _ (g : goal (get_or s.nodes.place e.index 0) ≡ false) where
    pub turn_go : (o : Out) → o ≡ visit_of exp e.index (cost_of e.key) s → to_turn o ≡ turn_of exp goal e s
    unfolding turn_of
    turn_go o v = rw (g, ← v)
