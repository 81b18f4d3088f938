-- A legal grid's map: its sides and points are in range, so that what is written fits. Assumes nothing.
use mathlib.Core.Path.{◌≡◌, sym, subst}
use mathlib.Core.Bool.{Bool, true, false, ◌&&◌}
use Prim.Native.Nat.{ℕ, ◌*◌, ◌≤◌}
use native.Mathlib.Nat.{mul_comm}
use native.Mathlib.Omega.{arith}
use lib.Dec.{T, leb}
use lib.ListN.{length}
use mir.Facts.{and_yes}
use Rattle.points.specs.Plane.{legal}
use Rattle.points.specs.declared.Point.{Point}
use Rattle.cells.specs.Cells.{most_side, sized_of}
use Rattle.states.specs.States.{state_ok}
use Rattle.grid.specs.Grids.{legal_of}
use Rattle.grid.specs.declared.Grid.{Grid}
use Rattle.grid.proofs.Tests.{of_legal_lem}
use Rattle.maps.specs.Maps.{Fair, side_ok}
use Rattle.floors.specs.Floors.{header_of}

yes : (b : Bool) → b ≡ true → T b
yes b e = subst T (sym e) tt

-- both sides of a legal grid are in range
sides_ok : (w h : ℕ) → T (sized_of w h) → T (side_ok w) × T (side_ok h)
unfolding sized_of
sides_ok w h t =
    let a = and_yes (leb 1 w) (leb w most_side && (leb 1 h && leb h most_side)) t in
    let b = and_yes (leb w most_side) (leb 1 h && leb h most_side) a.1 in
    (both (leb 1 w) (leb w most_side) a.0 b.0, b.1)
  where
    both : (p q : Bool) → T p → T q → T (p && q)
    both true q x y = y
    both false q x y = x

pub fair : (g : Grid) (diagonal : Bool) (start goal : Point) → legal_of g ≡ true → legal start ≡ true → legal goal ≡ true → Fair (header_of g diagonal start goal)
unfolding legal_of
fair g diagonal start goal l s t =
    let q = and_yes (sized_of g.width g.height) (state_ok (g.width * g.height) g.parent g.rank) (yes _ l) in
    let r = sides_ok g.width g.height q.0 in
    record { wide = r.0; high = r.1; start = yes _ s; goal = yes _ t }

-- a legal grid has a byte for each cell
pub held : (g : Grid) → legal_of g ≡ true → most_side * most_side ≤ length g.blocked → g.height * g.width ≤ length g.blocked
held g l room = omega (arith, (of_legal_lem g l).cells, mul_comm g.height g.width)
