-- The searches on lent tables: STATE comes before the other refusals. Assumes nothing: these are definitions.
use Rattle.std.specs.Prelude.{Bool, cond, List, ℕ, ℤ}
use Rattle.points.specs.declared.Point.{Point}
use Rattle.points.specs.declared.Refusal.TheVariants.{State}
use Rattle.costs.specs.declared.Settings.{Settings}
use Rattle.offers.specs.Search.{Reply, refused}
use Rattle.plans.specs.declared.Lengths.{Lengths}
use Rattle.finder.specs.Find.{Ground, single_of, several_of}
use Rattle.boundary.specs.Lent.{held_of}

-- the ground, with the parents p and ranks k, is a grid
abbrev pub held_in : Ground → List ℕ → List ℕ → Bool
held_in g p k = held_of g.w g.h g.blocked g.neighbours g.forced p k

-- the single-goal search, exact or approximate
unfoldable pub single_lent : Ground → List ℕ → List ℕ → Settings → Lengths → Bool → Point → Point → Reply
single_lent g p k s l approximate start goal = cond (held_in g p k) (single_of g p s l approximate start goal) (refused State 0)

-- the multiple-goal search
unfoldable pub several_lent : Ground → List ℕ → List ℕ → Settings → Lengths → Point → List ℤ → Reply
several_lent g p k s l start goals = cond (held_in g p k) (several_of g s l start goals) (refused State 0)
