-- STATE, and what a legal grid has for a search. Assumes nothing.
use mathlib.Core.Path.{◌≡◌, ap, ◌∙◌}
use mathlib.Core.Bool.{Bool, true, false}
use mathlib.Core.List.{List}
use Prim.Native.Nat.{ℕ, ◌*◌, ◌≤◌}
use native.Mathlib.Omega.{arith}
use lib.IntN.{ℤ}
use lib.ListN.{length}
use Rattle.points.specs.declared.Point.{Point}
use Rattle.points.specs.declared.Refusal.TheVariants.{State}
use Rattle.costs.specs.declared.Settings.{Settings}
use Rattle.goals.specs.declared.Plan.{Plan}
use Rattle.offers.specs.Search.{Reply, refused}
use Rattle.cells.specs.Cells.{most_side}
use Rattle.finder.specs.declared.Answer.{Answer}
use Rattle.plans.specs.declared.Lengths.{Lengths}
use Rattle.finder.specs.Find as F
use Rattle.finder.specs.Find.{Covered, answer_of, out_after}
use Rattle.grid.specs.declared.Grid.{Grid}
use Rattle.grid.specs.Grids.{legal_of}
use Rattle.grid.proofs.Tests.{of_legal_lem}
use Rattle.waypoints.specs.Waypoints.{ground_of, single_of, several_of}

pub covered : (g : Grid) → legal_of g ≡ true → most_side * most_side ≤ length g.blocked → most_side * most_side ≤ length g.neighbours → most_side * most_side ≤ length g.forced
    → Covered (g.width * g.height) g.blocked g.neighbours g.forced
covered g e hb hn hf =
    let f = of_legal_lem g e in
    record { blocked = omega (arith, f.cells); neighbours = omega (arith, f.cells); forced = omega (arith, f.cells) }

-- an answer that the definitions of the layer below give
pub same : (a : Answer) (room : ℕ) (out out' : List ℤ) (p : Plan) (x o : Reply) → (a ≡ answer_of room x) × (out' ≡ out_after out p x) → x ≡ o → (a ≡ answer_of room o) × (out' ≡ out_after out p o)
same a room out out' p x o r e = (r.0 ∙ ap (answer_of room) e, r.1 ∙ ap (out_after out p) e)

module _ (g : Grid) (s : Settings) (l : Lengths) (approximate : Bool) (start goal : Point) where
  pub single_state : legal_of g ≡ false → refused State 0 ≡ single_of g s l approximate start goal
  unfolding single_of
  single_state e = rw e

  pub single_legal : legal_of g ≡ true → F.single_of (ground_of g) g.parent s l approximate start goal ≡ single_of g s l approximate start goal
  unfolding single_of
  single_legal e = rw e

module _ (g : Grid) (s : Settings) (l : Lengths) (start : Point) (goals : List ℤ) where
  pub several_state : legal_of g ≡ false → refused State 0 ≡ several_of g s l start goals
  unfolding several_of
  several_state e = rw e

  pub several_legal : legal_of g ≡ true → F.several_of (ground_of g) s l start goals ≡ several_of g s l start goals
  unfolding several_of
  several_legal e = rw e
