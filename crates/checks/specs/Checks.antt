-- The route check: clear exactly if every cell of the expanded walk after the first point is inside and free; and the first bent leg, clear or not.
-- A list of points is a list of numbers, x and y in turn.
-- Assumes nothing: these are definitions.
use Rattle.std.specs.Prelude.{◌≡◌, Option, None, Result, Ok, Err, Bool, true, ◌&&◌, cond, List, [], ◌∷◌, ℕ, ◌*◌, ltb, eqb, ℤ, length, get_or, take, drop}
use Rattle.points.specs.declared.Point.{Point}
use Rattle.points.specs.declared.Refusal.{Refusal}
use Rattle.points.specs.declared.Refusal.TheVariants.{State}
use Rattle.cells.specs.Cells.{cell_of}
use Rattle.grid.specs.Grids.{legal_of}
use Rattle.grid.specs.declared.Grid.{Grid}
use Rattle.pairs.specs.Pairs.{point, taken_of}
use Rattle.checks.specs.declared.Checked.{Checked}
use Rattle.legs.specs.Legs.{first_bent_of}
use Rattle.paths.specs.Walks.{path_of, path_answer, path_kept}

-- a point is inside and free
unfoldable pub free_at : ℕ → ℕ → List ℕ → Point → Bool
free_at w h blocked p = ltb (cell_of w h p) (w * h) && eqb (get_or blocked (cell_of w h p) 0) 0

-- every point of a list is inside and free
unfoldable pub all_free : ℕ → ℕ → List ℕ → List ℤ → Bool
all_free w h blocked [] = true
all_free w h blocked (x ∷ []) = true
all_free w h blocked (x ∷ y ∷ l) = free_at w h blocked (point x y) && all_free w h blocked l

-- every cell of the expanded walk after the first point is inside and free
abbrev pub clear_of : ℕ → ℕ → List ℕ → List ℤ → Bool
clear_of w h blocked l = all_free w h blocked (drop 2 (path_of l))

-- whether the list is clear and its first bent leg
abbrev pub judged : Bool → Option ℕ → Checked
judged clear bent = record { clear = clear; bent = bent }

-- LIST, POINT, over the cells of a grid
unfoldable pub check_in : ℕ → ℕ → List ℕ → List ℤ → Result Checked Refusal
check_in w h blocked l = taken_of l (Ok (judged (clear_of w h blocked l) (first_bent_of l)))

-- STATE, LIST, POINT
unfoldable pub check_of : Grid → List ℤ → Result Checked Refusal
check_of g l = cond (legal_of g) (check_in g.width g.height g.blocked l) (Err State)

-- the same with no bent leg
abbrev pub unbent : Result Checked Refusal → Result Checked Refusal
unbent (Ok v) = Ok (judged v.clear None)
unbent (Err r) = Err r

-- for hosts that check the path: the n points that `waypoints_to_path` writes of a list l into the room out, checked, are as clear as l, and no leg of them is bent
abbrev pub PathSaysSame : Type 0
PathSaysSame = (w h : ℕ) (blocked : List ℕ) (l out : List ℤ) (n : ℕ) → path_answer l (length out) ≡ Ok n
    → check_in w h blocked (take (2 * n) (path_kept (Ok n) l out)) ≡ unbent (check_in w h blocked l)
