-- A map that was read has sides and points in range. Assumes nothing.
use mathlib.Core.Path.{◌≡◌, refl, sym, ap, subst}
use mathlib.Core.Bool.{Bool, true, false, cond, ◌&&◌}
use mathlib.Core.List.{List}
use Prim.Native.Nat.{ℕ, ◌<◌}
use native.Mathlib.Omega.{arith}
use borrow.Author.Tests.{leb-true}
use lib.Dec.{T, leb, ltb}
use lib.ListN.{length, drop}
use Rattle.cells.specs.Cells.{most_side, sized_of}
use Rattle.cells.specs.Cells.{Sides}
use Rattle.grid.specs.Grids.{zeros, new_grid, new_outcome}
use Rattle.rows.specs.Rows.{bad_line, Rows, rows_of}
use Rattle.rows.specs.declared.BadLine.{BadLine}
use Rattle.maps.specs.Maps.{Head, Reading, side_ok, most_text, head_of, Fair, with_rows, with_head, map_of, cells_into}
use Rattle.maps.specs.declared.Header.{Header}
use Rattle.std.specs.Prelude.{Ok, Err}
use Rattle.maps.proofs.Laws.{HBounded, head_fair, side_most}
use Rattle.floors.specs.Floors.{read_as, read_of}

-- ---- a map that was read
same : (a b : Header) → ◌≡◌ {A = Reading} (Ok a) (Ok b) → a ≡ b
same a b e = cc

never : (n : BadLine) (m : Header) → ◌≡◌ {A = Reading} (Err n) (Ok m) → ⊥
never n m e = let z : ◌≡◌ {A = ℕ} 0 1 = cc in omega arith

pub map_fair : (t : List ℕ) (m : Header) → map_of t ≡ Ok m → Fair m
unfolding map_of
map_fair t m e = long (ltb most_text (length t)) e
  where
    rows : (h : Header) → Fair h → (r : Rows) → with_rows h r ≡ Ok m → Fair m
    rows h f (Ok u) q = subst Fair (same h m q) f
    rows h f (Err n) q = absurd (never n m q)

    head : (r : Head) → HBounded (length t) r → with_head t r ≡ Ok m → Fair m
    head (Ok (h, k)) b q = rows h b.0 (rows_of h.height h.width 6 (drop k t)) q
    head (Err n) b q = absurd (never n m q)

    long : (b : Bool) → cond b (Err (bad_line 0)) (with_head t (head_of t)) ≡ Ok m → Fair m
    long true q = absurd (never (bad_line 0) m q)
    long false q = head (head_of t) (head_fair t) q

side_some : (n : ℕ) → T (side_ok n) → 0 < n
side_some n t = leb-true 1 n (is (leb 1 n) (leb n most_side) t)
  where
    is : (a b : Bool) → T (a && b) → a ≡ true
    is true b t = refl
    is false b t = absurd t

pub fair_sides : (m : Header) → Fair m → Sides m.width m.height
fair_sides m f = record { some = side_some m.width f.wide; wide = side_most m.width f.wide; high = side_most m.height f.high }

pub new_one : (new_outcome 1 1).grid ≡ new_grid 1 1
unfolding new_outcome sized_of
new_one = refl

-- ---- the whole reading
pub read_is : (t : List ℕ) (r : Reading) → map_of t ≡ r → read_as (cells_into t zeros) r ≡ read_of t
unfolding read_of
read_is t r e = ap (read_as (cells_into t zeros)) (sym e)
