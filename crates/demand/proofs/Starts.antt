-- The grid that `new` or `read_map` hands back is the grid of good tables, with sides in range. Assumes nothing.
use Rattle.std.specs.Prelude.{Ok, Err}
use mathlib.Core.Path.{◌≡◌, refl}
use mathlib.Core.Bool.{Bool, true, false, cond, ◌&&◌}
use mathlib.Core.List.{List}
use Prim.Native.Nat.{ℕ, ◌*◌, ◌≤◌}
use native.Mathlib.Omega.{arith}
use lib.Dec.{T, leb, ltb}
use lib.ListN.{length, drop, length-replicate, get_or-replicate}
use lib.Seq.{length-sets}
use Rattle.points.specs.declared.Refusal.TheVariants.{Size}
use Rattle.cells.specs.Cells.{most_side, sized_of, Sides}
use Rattle.cells.proofs.Cell.{area, sides_of_lem}
use Rattle.rebuilds.specs.Rebuilds.{most_rank}
use Rattle.tables.specs.Tables.{Tables, new_of}
use Rattle.rebuilds.proofs.Rebuilds.{fits}
use Rattle.grid.specs.declared.Grid.{Grid}
use Rattle.grid.specs.declared.Change.{Change}
use Rattle.grid.specs.Grids.{grid_of, zeros, empty, new_grid, new_outcome}
use Rattle.rows.specs.Rows.{cells_of}
use Rattle.maps.specs.Maps.{Head, Reading, most_text, side_ok, head_of, Fair, map_of, into_table, cells_into}
use Rattle.maps.specs.declared.Header.{Header}
use Rattle.floors.specs.Floors.{floor_grid, read_as, read_of}
use Rattle.floors.proofs.Laws.{map_fair}
use Rattle.demand.specs.Calls.{Begin, new, read, begun}
use Rattle.demand.proofs.Good.{Good, filled, good_filled, good_new}

-- g has sides in range, and is the grid of good tables
pub record Start (g : Grid) : Type 0 where
  pub ok : sized_of g.width g.height ≡ true
  pub tables : Tables
  pub good : Good most_rank g.width g.height tables
  pub is : g ≡ grid_of g.width g.height tables

module _ (w h : ℕ) (ok : sized_of w h ≡ true) where
  pub sides : Sides w h
  sides = sides_of_lem ok

  -- a grid by value has room for the cells
  cells : w * h ≤ most_side * most_side
  cells = area w h sides.wide sides.high

  roomy : w * h ≤ length zeros
  roomy = omega (arith, cells, length-replicate {A = ℕ} (most_side * most_side) 0)

  pub good_empty : Good most_rank w h (new_of w h empty)
  good_empty =
      good_new w h (omega arith) (fits sides) sides.some empty
      (record { blocked = roomy; masks = roomy; forced = roomy; parent = roomy; rank = roomy })

  start_new : Start (new_grid w h)
  unfolding new_grid
  start_new = record { ok = ok; tables = new_of w h empty; good = good_empty; is = refl }

  -- a floor's cells, the other tables made in the room of a grid by value
  start_floor : (blocked : List ℕ) → w * h ≤ length blocked → Start (floor_grid w h blocked)
  unfolding floor_grid
  start_floor blocked long =
      let t : Tables = record { blocked = blocked; masks = zeros; forced = zeros; parent = zeros; rank = zeros; dirty = true } in
      record {
        ok = ok;
        tables = filled w h t;
        good =
            good_filled w h (omega arith) (fits sides) sides.some t
            (record { blocked = long; masks = roomy; forced = roomy; parent = roomy; rank = roomy })
            (λ i hi. get_or-replicate {A = ℕ} (most_side * most_side) i 0 0 (omega (arith, cells)));
        is = refl;
      }

one : sized_of 1 1 ≡ true
unfolding sized_of
one = refl

-- a map that was read has sides in range
holds : (b : Bool) → T b → b ≡ true
holds true p = refl
holds false p = absurd p

and_then : (a b s : Bool) → T (a && b) → s ≡ true → a && (b && s) ≡ true
and_then true true s p e = e
and_then true false s p e = absurd p
and_then false b s p e = absurd p

fair_sized : (m : Header) → Fair m → sized_of m.width m.height ≡ true
unfolding sized_of
fair_sized m f =
    and_then (leb 1 m.width) (leb m.width most_side) (side_ok m.height) f.wide (holds (side_ok m.height) f.high)

-- a text's cells leave a table as long as it was
length_cells : (t table : List ℕ) → length (cells_into t table) ≡ length table
unfolding cells_into
length_cells t table = go (ltb most_text (length t))
  where
    into : (r : Head) → length (into_table t r table) ≡ length table
    into (Ok (m, k)) = length-sets table 0 (cells_of m.height m.width (drop k t))
    into (Err n) = refl

    go : (b : Bool) → length (cond b table (into_table t (head_of t) table)) ≡ length table
    go true = refl
    go false = into (head_of t)

pub start : (s : Begin) → Start (begun s)
unfolding new_outcome read_of
start (new w h) = go (sized_of w h) refl
  where
    go : (b : Bool) → sized_of w h ≡ b
        → Start (cond {A = Change} b (record { outcome = Ok tt; grid = new_grid w h }) (record { outcome = Err Size; grid = new_grid 1 1 })).grid
    go true e = start_new w h e
    go false e = start_new 1 1 one
start (read t) = go (map_of t) refl
  where
    go : (r : Reading) → map_of t ≡ r → Start (read_as (cells_into t zeros) r).grid
    go (Ok m) e =
        let ok = fair_sized m (map_fair t m e) in
        start_floor m.width m.height ok (cells_into t zeros) (omega (arith, roomy m.width m.height ok, length_cells t zeros))
    go (Err n) e = start_new 1 1 one
