-- Every cost of a search is below 2^31: those that are recorded, those that wait in the fringe, and those that expanding a node sums, whether they
-- are offered and recorded or not, expanded again or refused. Assumes nothing.
use Rattle.std.specs.Prelude.{◌≡◌, Some, ℕ, suc, ◌+◌, ◌^◌, ◌<◌, ◌≤◌, length, get_or}
use Rattle.points.specs.declared.Point.{Point}
use Rattle.points.specs.declared.Refusal.TheVariants.{Depth, Same}
use Rattle.goals.specs.declared.Plan.{Plan}
use Rattle.keys.specs.Keys.{cost_of}
use Rattle.fringe.specs.Order.{Each}
use Rattle.nodes.specs.Nodes.{Nodes}
use Rattle.offers.specs.Search.{State, Out, ok, no, offer_of, guess_at, area_of}
use Rattle.stops.specs.declared.Cell.{Cell}
use Rattle.stops.specs.Stops.{landing, number_of, price_of}
use Rattle.jumps.specs.Jumps.{jump_of}
use Rattle.expansion.specs.Expand.{Tables, cell_of}
use Rattle.expansion.specs.Start.{yield_of}
use Rattle.starts.specs.Start.{neighbour_of}
use Rattle.search.specs.Loop.{Legal}
use Rattle.search_laws.specs.Replies.{PassedIn}

-- ---- the costs that expanding sums

-- expanding the cell `from` at the cost `base`, where m re-expansions may nest, comes to a cell at a cost: by a jump, in any direction and with the price of
-- any direction for its first step, or by a jump and what expanding again the cell c that it found comes to, the costs added. The cell of a jump is offered,
-- or expanded again, or DEPTH is refused there; jumps that the rules do not make are counted too
pub data Comes (t : Tables) (p : Plan) : ℕ → Cell → ℕ → Cell → ℕ → Type 0 where
  jump : {m : ℕ} {from c : Cell} {base k : ℕ} (d e : ℕ) → jump_of t.blocked t.forced t.goals p e from (price_of d) ≡ Some (landing c k) → Comes t p m from base c (base + k)
  again : {m : ℕ} {from c b : Cell} {base k sum : ℕ} (d e : ℕ) → jump_of t.blocked t.forced t.goals p e from (price_of d) ≡ Some (landing c k) → Comes t p m c (base + k) b sum
      → Comes t p (suc m) from base b sum

-- expanding the node i at the cost k comes to the cell numbered c: the start, which is node 0, by a step to a free neighbour, the others by their jumps
pub data Reaches (t : Tables) (p : Plan) (s : Nodes) (i k : ℕ) : ℕ → ℕ → Type 0 where
  step : {c : ℕ} (d : ℕ) → i ≡ 0 → neighbour_of t.blocked p d ≡ Some c → Reaches t p s i k c (k + price_of d)
  leap : {c : Cell} {sum : ℕ} → (i ≡ 0 → ⊥) → Comes t p p.settings.depth (cell_of p.w (get_or s.place i 0)) k c sum
      → Reaches t p s i k (number_of p.w c.x c.y) sum

-- NO OTHER: what holds of the state before, of the refusals DEPTH and SAME, and with a state of what offering it such a cell at such a cost comes to,
-- holds of what the expansion comes to, a refusal too
abbrev pub NoOther : Type 1
NoOther = (t : Tables) (p : Plan) (i k : ℕ) (s : State) (Q : Out → Type 0) → Q (ok s) → Q (no Depth) → ((q : Point) → Q (no (Same q)))
    → ((c sum : ℕ) (u : State) → Reaches t p s.nodes i k c sum → Q (ok u) → Q (offer_of p.settings.fringe (guess_at t.goals p c) i c sum u))
    → Q (yield_of t p i k s)

-- ---- the bound

-- every cost stays under it
abbrev pub cost_limit : ℕ
cost_limit = 2 ^ 31

-- a cost is under the limit, and so is the estimate of any cell at that cost
pub record Below (t : Tables) (p : Plan) (k : ℕ) : Type 0 where
  pub cost : k < cost_limit
  pub estimate : (c : ℕ) → c < area_of p → k + guess_at t.goals p c < cost_limit

-- the recorded costs of a state, the costs that wait in its fringe, and all that the expansion of a node that waits comes to, whatever the turn comes to
pub record CostsBelow (t : Tables) (p : Plan) (s : State) : Type 0 where
  pub recorded : (i : ℕ) → i < length s.nodes.place → Below t p (get_or s.nodes.cost i 0)
  pub waiting : Each (λ e. Below t p (cost_of e.key)) s.heap
  pub summed : Each (λ e. (c sum : ℕ) → Reaches t p s.nodes e.index (cost_of e.key) c sum → Below t p sum) s.heap

-- THE COSTS: of every state that the search of a legal plan passes, from any place, whatever its reply
abbrev pub EveryCost : Type 0
EveryCost = (t : Tables) (p : Plan) (start : ℕ) → Legal t.goals p → start ≤ area_of p → (m : ℕ) (s : State) → PassedIn t p start m s → CostsBelow t p s
