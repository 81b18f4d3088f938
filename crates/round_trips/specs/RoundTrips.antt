-- Round trips: what is written of a number, a point and a map is read back as the same. Assumes nothing.
use Rattle.std.specs.Prelude.{◌≡◌, Some, Ok, Bool, true, cond, List, [], ◌∷◌, ◌++◌, ℕ, zero, suc, ◌*◌, ◌≤◌, T, eqb, length}
use Rattle.std.proofs.lemmas.List.Edits.{sets}
use Rattle.points.specs.Plane.{legal}
use Rattle.points.specs.declared.Point.{Point}
use Rattle.cells.specs.Cells.{most_side}
use Rattle.lines.specs.Lines.{number_line, point_line}
use Rattle.printing.specs.Render.{number_text, point_text}
use Rattle.maps.specs.Maps.{Fair, map_of, cells_into}
use Rattle.maps.specs.declared.Header.{Header}
use Rattle.map_printing.specs.Shown.{map_text}
use Rattle.grid.specs.Grids.{legal_of, zeros}
use Rattle.grid.specs.declared.Grid.{Grid}
use Rattle.floors.specs.Floors.{header_of, shown_of, read_as, read_of}

-- the first n cells of a table, 1 where it is blocked
unfoldable pub flags : ℕ → List ℕ → List ℕ
flags zero l = []
flags (suc n) [] = []
flags (suc n) (b ∷ l) = cond (eqb b 0) 0 1 ∷ flags n l

-- a line with a number up to 1,024, before any text, is read as the number, with the count of the line's bytes
abbrev pub NumberAgain : Type 0
NumberAgain = (n : ℕ) → n ≤ 1024 → (word rest : List ℕ) → number_line word 1024 (number_text word n ++ rest) ≡ Some (n, (length (number_text word n)))

-- a line with a point in range, before any text, is read as the point, with the count of the line's bytes
abbrev pub PointAgain : Type 0
PointAgain = (p : Point) → T (legal p) → (word rest : List ℕ) → point_line word (point_text word p ++ rest) ≡ Some (p, (length (point_text word p)))

-- a map's text is read as the map, and its cells as the table has them
abbrev pub MapAgain : Type 0
MapAgain = (m : Header) (cells table : List ℕ) → Fair m → m.height * m.width ≤ length cells
    → (map_of (map_text m cells) ≡ Ok m) × (cells_into (map_text m cells) table ≡ sets table 0 (flags (m.height * m.width) cells))

-- what `write_map` writes of a legal grid, `read_map` reads as the same sides, cells, flag and points
abbrev pub GridAgain : Type 0
GridAgain = (g : Grid) (diagonal : Bool) (start goal : Point) → legal_of g ≡ true → legal start ≡ true → legal goal ≡ true → most_side * most_side ≤ length g.blocked
    → read_of (shown_of g diagonal start goal) ≡ read_as (sets zeros 0 (flags (g.height * g.width) g.blocked)) (Ok (header_of g diagonal start goal))

-- THE ROUND TRIPS
pub record RoundTrips : Type 0 where
  pub numbers : NumberAgain
  pub points : PointAgain
  pub maps : MapAgain
  pub grids : GridAgain
