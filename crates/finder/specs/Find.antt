-- What the searches answer and write: the refusals in their order, the search, its waypoints.
-- Assumes nothing.
use Rattle.std.specs.Prelude.{Bool, cond, List, [], Result, Ok, Err, ◌∷◌, ℕ, ◌+◌, ◌*◌, ◌/◌, ◌≤◌, ℤ, length, get_or, take, Option, Some, None}
use Rattle.points.specs.Plane.{legal}
use Rattle.points.specs.declared.Point.{Point}
use Rattle.points.specs.declared.Refusal.{Refusal}
use Rattle.points.specs.declared.Refusal.TheVariants as refusal
use Rattle.costs.specs.declared.Settings.{Settings}
use Rattle.goals.specs.declared.Goal.TheVariants.{Several}
use Rattle.goals.specs.declared.Plan.{Plan}
use Rattle.pairs.specs.Pairs.{first_bad}
use Rattle.goals.specs.Goals.{count_of}
use Rattle.offers.specs.Search.{State, Reply, found, refused}
use Rattle.expansion.specs.Expand.{Tables, tables}
use Rattle.search.specs.Loop.{search_for}
use Rattle.search.specs.declared.Hit.{Hit}
use Rattle.trails.specs.Trail.{Climbs, Located, Tall, route_of, wrote_of, left_in}
use Rattle.cells.specs.Cells.{cell_of}
use Rattle.plans.specs.declared.Lengths.{Lengths}
use Rattle.plans.specs.Plans.{ready_of, barred_of, plan_of, kind_of}
use Rattle.finder.specs.declared.Found.{Found}
use Rattle.finder.specs.declared.Answer.{Answer}

-- ---- the answer of a search

-- the nodes from the start to node i
abbrev pub route_in : State → ℕ → List ℕ
route_in s i = route_of s.nodes.parent (get_or s.nodes.cost i 0) i []

-- what was found, of its parts
abbrev pub found_of : ℕ → ℕ → Found
found_of n k = record { length = n; cost = k }

-- how many waypoints were written, with the cost k, or ROOM
abbrev pub told_of : ℕ → Result ℕ Refusal → Result Found Refusal
told_of k (Ok n) = Ok (found_of n k)
told_of k (Err w) = Err w

-- pops and outcome, where the output has room for so many numbers
unfoldable pub answer_of : ℕ → Reply → Answer
answer_of room (found i k n s) = record { pops = n; outcome = told_of k (wrote_of room (route_in s i)) }
answer_of room (refused w n) = record { pops = n; outcome = Err w }

-- what the output holds then: a refusal leaves all of it
unfoldable pub out_after : List ℤ → Plan → Reply → List ℤ
out_after out p (found i k n s) = left_in out p s.nodes.place (route_in s i)
out_after out p (refused w n) = out

-- a refusal before searching
abbrev pub early : Refusal → Answer
early w = record { pops = 0; outcome = Err w }

-- ---- the searches

-- what a search reads of a grid: its sides and the tables of its cells
pub record Ground : Type 0 where
  pub w : ℕ
  pub h : ℕ
  pub blocked : List ℕ
  pub neighbours : List ℕ
  pub forced : List ℕ

abbrev pub lent_ground : ℕ → ℕ → List ℕ → List ℕ → List ℕ → Ground
lent_ground w h blocked neighbours forced = record { w = w; h = h; blocked = blocked; neighbours = neighbours; forced = forced }

-- the first n places of each table are looked at, with a list of goals
abbrev pub tables_of : ℕ → List ℕ → List ℕ → List ℕ → List ℤ → Tables
tables_of n blocked neighbours forced goals = tables (take n blocked) (take n neighbours) (take n forced) goals

-- the lengths of the lent working room
abbrev pub lengths_of : List ℕ → List ℕ → List ℕ → List ℕ → List ℕ → List ℕ → Lengths
lengths_of number place parent cost keys idx =
    record { number = length number; place = length place; parent = length parent; cost = length cost; keys = length keys; idx = length idx }

-- the search of a plan from its start's place, over the first places of the tables
unfoldable pub started_of : List ℕ → List ℕ → List ℕ → List ℤ → Plan → Reply
started_of blocked neighbours forced goals p =
    search_for (tables_of (p.w * p.h) blocked neighbours forced goals) p (cell_of p.w p.h p.start)

abbrev pub started_in : Ground → List ℤ → Plan → Reply
started_in g goals p = started_of g.blocked g.neighbours g.forced goals p

-- a single goal as a list of pairs
abbrev pub pair_of : Point → List ℤ
pair_of q = q.x ∷ q.y ∷ []

abbrev pub single_plan : ℕ → ℕ → Settings → Bool → Point → Point → Plan
single_plan w h s approximate start goal = plan_of w h s (kind_of approximate goal) start

-- the single-goal search: SETTING, POINT (start, then goal), NO_ROUTE, then what the search meets. links: the cells' parents in the union-find
unfoldable pub single_of : Ground → List ℕ → Settings → Lengths → Bool → Point → Point → Reply
single_of g links s l approximate start goal =
    cond (ready_of s l (g.w * g.h + 1))
    (cond (legal start)
    (cond (legal goal)
    (cond (barred_of g.w g.h links s.diagonal approximate start goal) (refused refusal.NoRoute 0)
    (started_in g (pair_of goal) (single_plan g.w g.h s approximate start goal)))
    (refused (refusal.BadPoint goal) 0))
    (refused (refusal.BadPoint start) 0))
    (refused refusal.Setting 0)

-- several goals as pairs: half as many as the list has numbers
abbrev pub several_plan : ℕ → ℕ → Settings → Point → List ℤ → Plan
several_plan w h s start goals = plan_of w h s (Several (length goals / 2)) start

-- GOALS
abbrev pub after_count : Result ℕ Refusal → Reply → Reply
after_count (Err w) r = refused refusal.Goals 0
after_count (Ok n) r = r

-- POINT of the goals, in order
abbrev pub after_goals : Option Point → Reply → Reply
after_goals (Some q) r = refused (refusal.BadPoint q) 0
after_goals None r = r

-- the multiple-goal search: SETTING, GOALS, POINT (start, then goals in order), then what the search meets; it asks no component
unfoldable pub several_of : Ground → Settings → Lengths → Point → List ℤ → Reply
several_of g s l start goals =
    cond (ready_of s l (g.w * g.h + 1))
    (after_count (count_of (length goals))
    (cond (legal start)
    (after_goals (first_bad goals)
    (started_in g goals (several_plan g.w g.h s start goals)))
    (refused (refusal.BadPoint start) 0)))
    (refused refusal.Setting 0)

-- ---- what the code asks

-- the nodes from the start to a popped goal
abbrev pub hit_route : List ℕ → List ℕ → ℕ → Hit → List ℕ
hit_route parent cost n h = route_of (take n parent) (get_or (take n cost) h.node 0) h.node []

-- a popped goal from which the recorded parents lead back to the start
pub record Traceable (p : Plan) (place parent cost : List ℕ) (n : ℕ) (h : Hit) : Type 0 where
  pub place_in : n ≤ length place
  pub parent_in : n ≤ length parent
  pub cost_in : n ≤ length cost
  pub located : Located p (take n place) n
  pub climbs : Climbs (take n parent) (take n cost) n
  pub tall : Tall (take n cost) n h.node

-- tables with a place for each cell
pub record Covered (n : ℕ) (b e f : List ℕ) : Type 0 where
  pub blocked : n ≤ length b
  pub neighbours : n ≤ length e
  pub forced : n ≤ length f

-- working room for the cells and one more, and for the fringe limit
pub record Roomy (places fringe : ℕ) (n p q c k i : List ℕ) : Type 0 where
  pub number : places ≤ length n
  pub place : places ≤ length p
  pub parent : places ≤ length q
  pub cost : places ≤ length c
  pub keys : fringe ≤ length k
  pub idx : fringe ≤ length i
