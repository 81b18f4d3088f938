-- The searches on a grid by value: STATE comes before the other refusals. Assumes nothing.
use Rattle.std.specs.Prelude.{Bool, cond, List, ℤ}
use Rattle.points.specs.declared.Point.{Point}
use Rattle.points.specs.declared.Refusal.TheVariants.{State}
use Rattle.costs.specs.declared.Settings.{Settings}
use Rattle.goals.specs.declared.Plan.{Plan}
use Rattle.offers.specs.Search.{Reply, refused}
use Rattle.plans.specs.declared.Lengths.{Lengths}
use Rattle.finder.specs.Find as F
use Rattle.finder.specs.Find.{Ground, lent_ground}
use Rattle.grid.specs.declared.Grid.{Grid}
use Rattle.grid.specs.Grids.{legal_of}

-- what a search reads of a grid
abbrev pub ground_of : Grid → Ground
ground_of g = lent_ground g.width g.height g.blocked g.neighbours g.forced

-- the single-goal search, exact or approximate
unfoldable pub single_of : Grid → Settings → Lengths → Bool → Point → Point → Reply
single_of g s l approximate start goal = cond (legal_of g) (F.single_of (ground_of g) g.parent s l approximate start goal) (refused State 0)

-- the multiple-goal search
unfoldable pub several_of : Grid → Settings → Lengths → Point → List ℤ → Reply
several_of g s l start goals = cond (legal_of g) (F.several_of (ground_of g) s l start goals) (refused State 0)

-- the plans, by which the waypoints are told as points
abbrev pub single_plan : Grid → Settings → Bool → Point → Point → Plan
single_plan g s approximate start goal = F.single_plan g.width g.height s approximate start goal

abbrev pub several_plan : Grid → Settings → Point → List ℤ → Plan
several_plan g s start goals = F.several_plan g.width g.height s start goals
