-- The searches on lent tables that are refused with STATE. Assumes nothing.
use mathlib.Core.Path.{◌≡◌}
use mathlib.Core.Bool.{Bool, false}
use mathlib.Core.List.{List}
use Prim.Native.Nat.{ℕ}
use lib.IntN.{ℤ}
use Rattle.points.specs.declared.Point.{Point}
use Rattle.points.specs.declared.Refusal.TheVariants.{State}
use Rattle.costs.specs.declared.Settings.{Settings}
use Rattle.offers.specs.Search.{refused}
use Rattle.plans.specs.declared.Lengths.{Lengths}
use Rattle.finder.specs.Find.{Ground, Covered}
use Rattle.boundary.specs.Searches.{held_in, single_lent, several_lent}
use Rattle.boundary.proofs.Lent.{Covers}

pub covered : (n : ℕ) (b e f : List ℕ) → Covers n b e f → Covered n b e f
covered n b e f c = record { blocked = c.blocked; neighbours = c.masks; forced = c.forced }

module _ (g : Ground) (p k : List ℕ) (s : Settings) (l : Lengths) (approximate : Bool) (start goal : Point) where
  pub single_state : held_in g p k ≡ false → refused State 0 ≡ single_lent g p k s l approximate start goal
  unfolding single_lent
  single_state e = rw e

module _ (g : Ground) (p k : List ℕ) (s : Settings) (l : Lengths) (start : Point) (goals : List ℤ) where
  pub several_state : held_in g p k ≡ false → refused State 0 ≡ several_lent g p k s l start goals
  unfolding several_lent
  several_state e = rw e
