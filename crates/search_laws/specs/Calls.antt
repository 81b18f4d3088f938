-- The calls that search, with any arguments: each is refused before searching or is the search of a legal plan, of which Costs.antt and Order.antt
-- speak; its pops are at most the limit, and the cost that it found is below 2^31. Assumes nothing.
use Rattle.std.specs.Prelude.{◌≡◌, Bool, List, Ok, ℕ, ◌<◌, ◌≤◌, ℤ}
use Rattle.points.specs.declared.Point.{Point}
use Rattle.points.specs.declared.Refusal.{Refusal}
use Rattle.costs.specs.declared.Settings.{Settings}
use Rattle.goals.specs.declared.Plan.{Plan}
use Rattle.offers.specs.Search.{Reply, refused, area_of}
use Rattle.expansion.specs.Expand.{Tables}
use Rattle.search.specs.Loop.{Legal, search_for}
use Rattle.cells.specs.Cells.{Sides}
use Rattle.finder.specs.declared.Answer.{Answer}
use Rattle.plans.specs.declared.Lengths.{Lengths}
use Rattle.finder.specs.Find as F
use Rattle.finder.specs.Find.{Ground, found_of, answer_of}
use Rattle.grid.specs.declared.Grid.{Grid}
use Rattle.waypoints.specs.Waypoints as W
use Rattle.replies.specs.declared.Route.{Route}
use Rattle.boundary.specs.Searches.{single_lent, several_lent}
use Rattle.replies.specs.Replies.{route_of}
use Rattle.search_laws.specs.Costs.{cost_limit}

-- a call that searches: on a grid by value, on tables that a host lends, and, inside, on tables whose sides are known to be in range
pub data Call : Type 0 where
  single : Grid → Settings → Lengths → Bool → Point → Point → Call
  several : Grid → Settings → Lengths → Point → List ℤ → Call
  single_host : Ground → List ℕ → List ℕ → Settings → Lengths → Bool → Point → Point → Call
  several_host : Ground → List ℕ → List ℕ → Settings → Lengths → Point → List ℤ → Call
  single_inner : (g : Ground) → Sides g.w g.h → List ℕ → Settings → Lengths → Bool → Point → Point → Call
  several_inner : (g : Ground) → Sides g.w g.h → Settings → Lengths → Point → List ℤ → Call

-- what its contract says that it comes to
abbrev pub reply_to : Call → Reply
reply_to (single g s l approximate start goal) = W.single_of g s l approximate start goal
reply_to (several g s l start goals) = W.several_of g s l start goals
reply_to (single_host g parents ranks s l approximate start goal) = single_lent g parents ranks s l approximate start goal
reply_to (several_host g parents ranks s l start goals) = several_lent g parents ranks s l start goals
reply_to (single_inner g sides parents s l approximate start goal) = F.single_of g parents s l approximate start goal
reply_to (several_inner g sides s l start goals) = F.several_of g s l start goals

-- its settings
abbrev pub settings_in : Call → Settings
settings_in (single g s l approximate start goal) = s
settings_in (several g s l start goals) = s
settings_in (single_host g parents ranks s l approximate start goal) = s
settings_in (several_host g parents ranks s l start goals) = s
settings_in (single_inner g sides parents s l approximate start goal) = s
settings_in (several_inner g sides s l start goals) = s

-- what it answers, where the output has room for so many numbers; and what a host is told
abbrev pub answer_to : Call → ℕ → Answer
answer_to c room = answer_of room (reply_to c)

abbrev pub route_to : Call → ℕ → Route
route_to c room = route_of (answer_to c room)

-- a reply: refused before searching, with 0 pops, or that of the search of a legal plan with these settings, from a place of its grid or the one outside
pub data Stems (s : Settings) (r : Reply) : Type 0 where
  before : (w : Refusal) → r ≡ refused w 0 → Stems s r
  searched : (t : Tables) (p : Plan) (start : ℕ) → Legal t.goals p → start ≤ area_of p → p.settings ≡ s → r ≡ search_for t p start → Stems s r

-- THE CALLS
abbrev pub EveryCall : Type 0
EveryCall = (c : Call) → Stems (settings_in c) (reply_to c)

-- THE POPS: an answer's pops are at most the limit of pops
abbrev pub PopsWithin : Type 0
PopsWithin = (c : Call) (room : ℕ) → ((answer_to c room).pops ≤ (settings_in c).pops) × ((route_to c room).pops ≤ (settings_in c).pops)

-- THE COST FOUND: the cost at the goal's pop, as an answer and as a host have it
abbrev pub FoundBelow : Type 0
FoundBelow = (c : Call) (room : ℕ) → ((n k : ℕ) → (answer_to c room).outcome ≡ Ok (found_of n k) → k < cost_limit) × ((route_to c room).cost < cost_limit)
