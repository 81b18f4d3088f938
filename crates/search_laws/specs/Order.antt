-- The order of pops: the smallest estimate; on a tie the larger cost. Said of the entries that wait, by cost and guess. Assumes nothing.
use Rattle.std.specs.Prelude.{◌≡◌, cond, List, ◌⊎◌, ℕ, ◌+◌, ◌-◌, ◌<◌, ◌≤◌, eqb, ℤ, length, get_or}
use Rattle.goals.specs.declared.Plan.{Plan}
use Rattle.sifts.specs.declared.Entry.{Entry}
use Rattle.fringe.specs.Fringe.{top}
use Rattle.keys.specs.Keys.{key_of, cost_of}
use Rattle.fringe.specs.Order.{Each}
use Rattle.nodes.specs.Nodes.{Nodes}
use Rattle.offers.specs.Search.{State, guess_at, area_of}
use Rattle.expansion.specs.Expand.{Tables}
use Rattle.search.specs.Loop.{Legal}
use Rattle.search_laws.specs.Replies.{PassedIn}

-- the cost at which an entry waits: what its pop gives
abbrev pub cost_in : Entry → ℕ
cost_in e = cost_of e.key

-- the estimate of an entry: its cost and the guess at what is left from its node's cell; the start, which is node 0, has estimate 0
abbrev pub estimate_in : List ℤ → Plan → Nodes → Entry → ℕ
estimate_in goals p s e = cond (eqb e.index 0) 0 (cost_in e + guess_at goals p (get_or s.place e.index 0))

-- an entry waits for a node, at no less than its recorded cost; and its key is made of this estimate and of the guess in it
pub record Waits (goals : List ℤ) (p : Plan) (s : Nodes) (e : Entry) : Type 0 where
  pub node : e.index < length s.place
  pub cost : get_or s.cost e.index 0 ≤ cost_in e
  pub made : e.key ≡ key_of (estimate_in goals p s e) (estimate_in goals p s e - cost_in e)

-- a is popped no later than b: a smaller estimate, or the same and a cost that is no smaller
abbrev pub GoesFirst : (Entry → ℕ) → Entry → Entry → Type 0
GoesFirst estimate a b = (estimate a < estimate b) ⊎ ((estimate a ≡ estimate b) × (cost_in b ≤ cost_in a))

-- what holds of a state: every entry waits, and the one that a pop takes goes first
pub record PopsInOrder (goals : List ℤ) (p : Plan) (s : State) : Type 0 where
  pub waits : Each (Waits goals p s.nodes) s.heap
  pub first : 0 < s.size → Each (GoesFirst (estimate_in goals p s.nodes) (top s.heap)) s.heap

-- THE ORDER: of every state that the search of a legal plan passes
abbrev pub EveryPop : Type 0
EveryPop = (t : Tables) (p : Plan) (start : ℕ) → Legal t.goals p → start ≤ area_of p → (m : ℕ) (s : State) → PassedIn t p start m s → PopsInOrder t.goals p s
