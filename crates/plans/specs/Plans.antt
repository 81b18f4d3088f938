-- The tests before a search, and its plan. Assumes nothing.
use Rattle.std.specs.Prelude.{Bool, cond, not, ◌&&◌, List, ℕ, ◌*◌, leb}
use Rattle.points.specs.declared.Point.{Point}
use Rattle.costs.specs.declared.Settings.{Settings}
use Rattle.costs.specs.Limits.{settings_ok}
use Rattle.goals.specs.declared.Goal.{Goal}
use Rattle.goals.specs.declared.Goal.TheVariants.{Exact, Near}
use Rattle.goals.specs.declared.Plan.{Plan}
use Rattle.cells.specs.Cells.{cell_of}
use Rattle.stops.specs.Stops.{target_in}
use Rattle.questions.specs.Questions.{reachable_of, neighbours_unreachable_of}
use Rattle.plans.specs.declared.Lengths.{Lengths}

-- SETTING: the factor and the limits in range, and working room for the cells and one more and for the fringe limit
unfoldable pub ready_of : Settings → Lengths → ℕ → Bool
ready_of s l places =
    settings_ok s
    && (leb places l.number
    && (leb places l.place
    && (leb places l.parent
    && (leb places l.cost
    && (leb s.fringe l.keys
    && leb s.fringe l.idx)))))

-- NO_ROUTE: exact search asks `unreachable`, approximate asks `neighbours_unreachable`
unfoldable pub barred_of : ℕ → ℕ → List ℕ → Bool → Bool → Point → Point → Bool
barred_of w h links diagonal approximate start goal =
    cond approximate
    (neighbours_unreachable_of w h diagonal links (cell_of w h start) (cell_of w h goal))
    (not (reachable_of (w * h) links (cell_of w h start) (cell_of w h goal)))

-- the kind of a single goal: any point whose unscaled distance is at most 99, or the point itself
abbrev pub kind_of : Bool → Point → Goal
kind_of approximate goal = cond approximate (Near goal) (Exact goal)

-- what stays the same in a search, with the number of the one cell that is the goal
abbrev pub plan_of : ℕ → ℕ → Settings → Goal → Point → Plan
plan_of w h s goal start = record { start = start; goal = goal; w = w; h = h; target = target_in w h goal; settings = s }
