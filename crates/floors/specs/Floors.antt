-- A map text as a grid by value. Assumes nothing: these are definitions.
use Rattle.std.specs.Prelude.{Result, Ok, Err, Bool, true, cond, List, ℕ, ◌*◌, ltb, pos, length, get_or}
use Rattle.std.proofs.lemmas.List.Edits.{sets}
use Rattle.points.specs.declared.Point.{Point}
use Rattle.points.specs.declared.Refusal.TheVariants.{State, Room, Map as MapBroken, BadPoint}
use Rattle.masks.specs.Masks.{forced_of}
use Rattle.fills.specs.Fills.{mask_at, fill_to}
use Rattle.grid.specs.Grids.{legal_of, zeros, new_grid}
use Rattle.grid.specs.declared.Grid.{Grid}
use Rattle.points.specs.Plane.{legal}
use Rattle.maps.specs.Maps.{Reading, most_text, map_of, cells_into}
use Rattle.map_printing.specs.Shown.{map_text}
use Rattle.maps.specs.declared.Header.{Header}
use Rattle.points.specs.declared.Refusal.{Refusal}
use Rattle.floors.specs.declared.MapRead.{MapRead}

-- the grid of a floor's cells: the masks that they give, each cell its own component, and the mark that a rebuild clears
unfoldable pub floor_grid : ℕ → ℕ → List ℕ → Grid
floor_grid w h blocked = record {
  width = w;
  height = h;
  dirty = true;
  blocked = blocked;
  neighbours = fill_to (mask_at w h blocked) zeros (w * h);
  forced = fill_to (λ i. forced_of (get_or (fill_to (mask_at w h blocked) zeros (w * h)) i 0)) zeros (w * h);
  parent = fill_to (λ i. i) zeros (w * h);
  rank = zeros;
}

abbrev pub origin : Point
origin = record { x = pos 0; y = pos 0 }

-- a refused map text comes with a new free grid of 1 by 1
abbrev pub refused_map : ℕ → MapRead
refused_map n = record { outcome = Err (MapBroken n); grid = new_grid 1 1; diagonal = true; start = origin; goal = origin }

abbrev pub read_as : List ℕ → Reading → MapRead
read_as blocked (Ok m) = record { outcome = Ok tt; grid = floor_grid m.width m.height blocked; diagonal = m.diagonal; start = m.start; goal = m.goal }
read_as blocked (Err bad) = refused_map bad.line

-- the map of a text, its cells in a table of free ones
unfoldable pub read_of : List ℕ → MapRead
read_of t = read_as (cells_into t zeros) (map_of t)

-- the text of a grid's cells, with an order to route
abbrev pub header_of : Grid → Bool → Point → Point → Header
header_of g diagonal start goal = record { width = g.width; height = g.height; diagonal = diagonal; start = start; goal = goal }

unfoldable pub shown_of : Grid → Bool → Point → Point → List ℕ
shown_of g diagonal start goal = map_text (header_of g diagonal start goal) g.blocked

-- how many bytes were written, or a refusal
abbrev pub Put : Type 0
Put = Result ℕ Refusal

-- STATE, POINT (start, then goal), and ROOM where the longest map text would not fit
unfoldable pub put_of : ℕ → Grid → Bool → Point → Point → Put
put_of room g diagonal start goal =
    cond (legal_of g)
    (cond (legal start)
    (cond (legal goal)
    (cond (ltb room most_text) (Err Room) (Ok (length (shown_of g diagonal start goal))))
    (Err (BadPoint goal)))
    (Err (BadPoint start)))
    (Err State)

-- what stands in the room then
abbrev pub put_into : Put → List ℕ → List ℕ → List ℕ
put_into (Ok n) text buf = sets buf 0 text
put_into (Err w) text buf = buf
