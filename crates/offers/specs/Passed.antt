-- The states that a search passes, over any expansion and any goal test, and what its reply comes from. Assumes nothing.
use Rattle.std.specs.Prelude.{◌≡◌, Bool, ℕ, ◌+◌, ◌<◌, ◌≤◌}
use Rattle.points.specs.declared.Refusal.{Refusal}
use Rattle.points.specs.declared.Refusal.TheVariants.{Exhausted, Pops}
use Rattle.fringe.specs.Fringe.{top}
use Rattle.offers.specs.Search.{State, Expansion, Turn, hit, on, halt, turn_of, popped, begin, no, Reply, found, refused}

-- what the pop of a state comes to
abbrev pub turn_in : Expansion → (ℕ → Bool) → State → Turn
turn_in exp goal s = turn_of exp goal (top s.heap) (popped s)

-- the states that a search over n places passes, each with the pops made until then: where it begins, and what each pop that it goes on from leaves
pub data Passed (exp : Expansion) (goal : ℕ → Bool) (n start : ℕ) : ℕ → State → Type 0 where
  first : Passed exp goal n start 0 (begin n start)
  next : {pops : ℕ} {u : State} (s : State) → Passed exp goal n start pops s → 0 < s.size → on u ≡ turn_in exp goal s → Passed exp goal n start (pops + 1) u

-- ---- what a reply comes from, where `limit` pops are allowed

-- pop number m, of a passed state that is not empty, comes to x
pub record Popped (exp : Expansion) (goal : ℕ → Bool) (n start limit m : ℕ) (x : Turn) : Type 0 where
  pub before : ℕ
  pub from : State
  pub passed : Passed exp goal n start before from
  pub some : 0 < from.size
  pub turn : x ≡ turn_in exp goal from
  pub count : m ≡ before + 1
  pub within : m ≤ limit

-- after m pops a state is passed whose fringe is empty
pub record Emptied (exp : Expansion) (goal : ℕ → Bool) (n start limit m : ℕ) : Type 0 where
  pub from : State
  pub passed : Passed exp goal n start m from
  pub none : from.size ≤ 0
  pub within : m ≤ limit

-- after the last pop that is allowed a state is passed whose fringe is not empty
pub record Spent (exp : Expansion) (goal : ℕ → Bool) (n start limit m : ℕ) : Type 0 where
  pub from : State
  pub passed : Passed exp goal n start m from
  pub some : 0 < from.size
  pub all : m ≡ limit

-- a refusal after m pops: EXHAUSTED, POPS, or what the expansion refused
pub data Why (exp : Expansion) (goal : ℕ → Bool) (n start limit : ℕ) (w : Refusal) (m : ℕ) : Type 0 where
  emptied : w ≡ Exhausted → Emptied exp goal n start limit m → Why exp goal n start limit w m
  spent : w ≡ Pops → Spent exp goal n start limit m → Why exp goal n start limit w m
  halted : Popped exp goal n start limit m (halt w) → Why exp goal n start limit w m

-- a goal that is found was hit by a pop
abbrev pub Reason : Expansion → (ℕ → Bool) → ℕ → ℕ → ℕ → Reply → Type 0
Reason exp goal n start limit (found i k m t) = Popped exp goal n start limit m (hit i k t)
Reason exp goal n start limit (refused w m) = Why exp goal n start limit w m

-- the pops that a reply tells
abbrev pub pops_of : Reply → ℕ
pops_of (found i k m t) = m
pops_of (refused w m) = m

-- an expansion that refuses neither EXHAUSTED nor POPS, which are the loop's own
abbrev pub Leaves : Expansion → Type 0
Leaves exp = (i k : ℕ) (s : State) → (exp i k s ≡ no Exhausted → ⊥) × (exp i k s ≡ no Pops → ⊥)
