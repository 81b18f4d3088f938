-- The search of a plan: what it expands, what it tests, and what its code asks of the plan.
-- Assumes nothing.
use Rattle.std.specs.Prelude.{Bool, List, Option, Some, None, Result, Ok, Err, ℕ, ◌+◌, ◌≤◌, T, ℤ}
use Rattle.points.specs.Plane.{legal}
use Rattle.costs.specs.Limits.{most_depth, most_pops}
use Rattle.points.specs.declared.Refusal.{Refusal}
use Rattle.goals.specs.declared.Plan.{Plan}
use Rattle.offers.specs.declared.Work.{Work}
use Rattle.goals.specs.Goals.{most_side, goal_at, Aimed}
use Rattle.offers.specs.Search as S
use Rattle.offers.specs.Search.{State, view, Good, Sides, area_of, place_point, search_of}
use Rattle.nodes.specs.Bound.{edge_of}
use Rattle.stops.specs.Stops.{Marked}
use Rattle.expansion.specs.Expand.{Tables}
use Rattle.expansion.specs.Start.{yield_of}
use Rattle.search.specs.declared.Hit.{Hit}
use Rattle.search.specs.declared.Reply.{Reply}

-- the point of a place is a goal
unfoldable pub goal_of : List ℤ → Plan → ℕ → Bool
goal_of goals p c = goal_at goals p (place_point p c)

-- the search from the start's place, over the cells and one place more
unfoldable pub search_for : Tables → Plan → ℕ → S.Reply
search_for t p start = search_of (yield_of t p) (goal_of t.goals p) p.settings.pops (area_of p + 1) start

-- what the code's answers and the room come to
abbrev pub turn_as : Result (Option Hit) Refusal → Work → S.Turn
turn_as (Ok (Some h)) r = S.hit h.node h.cost (view r)
turn_as (Ok None) r = S.on (view r)
turn_as (Err w) r = S.halt w

abbrev pub reply_in : Result Hit Refusal → ℕ → Work → S.Reply
reply_in (Ok h) n r = S.found h.node h.cost n (view r)
reply_in (Err w) n r = S.refused w n

abbrev pub reply_of : Reply → Work → S.Reply
reply_of x r = reply_in x.outcome x.pops r

-- the longest edge of the search of a plan
abbrev pub edge_in : Plan → ℕ
edge_in p = edge_of most_side p.settings.depth

-- a good state of the search of a plan
abbrev pub GoodIn : Plan → State → Type 0
GoodIn p = Good (area_of p + 1) p.settings.fringe (edge_in p) (area_of p)

-- a plan whose sides, goals, start and limits are in range, and which has the number of its goal's cell
pub record Legal (goals : List ℤ) (p : Plan) : Type 0 where
  pub aimed : Aimed goals p
  pub marked : Marked p
  pub sides : Sides p
  pub start : T (legal p.start)
  pub depth : p.settings.depth ≤ most_depth
  pub pops : p.settings.pops ≤ most_pops
  pub fringe : 1 ≤ p.settings.fringe
