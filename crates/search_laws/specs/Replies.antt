-- What the reply of a search comes from, by the states that it passes. Assumes nothing.
use Rattle.std.specs.Prelude.{◌≡◌, ℕ, ◌+◌, ◌≤◌}
use Rattle.points.specs.declared.Refusal.{Refusal}
use Rattle.points.specs.declared.Refusal.TheVariants.{Exhausted, Pops}
use Rattle.goals.specs.declared.Plan.{Plan}
use Rattle.offers.specs.Search.{State, Turn, hit, halt, found, refused, area_of}
use Rattle.offers.specs.Passed.{Passed, Popped, Emptied, Spent, pops_of}
use Rattle.expansion.specs.Expand.{Tables}
use Rattle.expansion.specs.Start.{yield_of}
use Rattle.search.specs.Loop.{goal_of, search_for}

-- the states that the search of a plan passes, each with the pops made until then
abbrev pub PassedIn : Tables → Plan → ℕ → ℕ → State → Type 0
PassedIn t p start m s = Passed (yield_of t p) (goal_of t.goals p) (area_of p + 1) start m s

-- pop number m, of a state that the search of a plan passes, comes to x
abbrev pub PoppedIn : Tables → Plan → ℕ → ℕ → Turn → Type 0
PoppedIn t p start m x = Popped (yield_of t p) (goal_of t.goals p) (area_of p + 1) start p.settings.pops m x

pub record Replies (t : Tables) (p : Plan) (start : ℕ) : Type 0 where
  -- the pops of every reply are at most the limit
  pub pops : pops_of (search_for t p start) ≤ p.settings.pops
  -- a goal that is found was popped
  pub goal : (i k m : ℕ) (u : State) → found i k m u ≡ search_for t p start → PoppedIn t p start m (hit i k u)
  -- EXHAUSTED: the fringe is empty
  pub exhausted : (m : ℕ) → refused Exhausted m ≡ search_for t p start → Emptied (yield_of t p) (goal_of t.goals p) (area_of p + 1) start p.settings.pops m
  -- POPS: another pop is needed after the last one allowed
  pub spent : (m : ℕ) → refused Pops m ≡ search_for t p start → Spent (yield_of t p) (goal_of t.goals p) (area_of p + 1) start p.settings.pops m
  -- every other refusal is what the expansion of a popped node met
  pub halted : (w : Refusal) (m : ℕ) → (w ≡ Exhausted → ⊥) → (w ≡ Pops → ⊥) → refused w m ≡ search_for t p start → PoppedIn t p start m (halt w)

-- THE REPLIES: of every search
abbrev pub EveryReply : Type 0
EveryReply = (t : Tables) (p : Plan) (start : ℕ) → Replies t p start
