-- What expanding a cell offers, by the remaining depth. Assumes nothing: these are definitions.
use Rattle.std.specs.Prelude.{cond, List, Option, Some, None, ℕ, zero, suc, ◌+◌, ◌/◌, ◌%◌, ◌^◌, ◌<◌, T, ℤ, length, get_or}
use Rattle.points.specs.Plane.{legal}
use Rattle.bends.specs.Bends.{way_of}
use Rattle.headings.specs.Headings.{heading_of}
use Rattle.std.specs.Prelude.{Option, Some, None}
use Rattle.points.specs.declared.Point.{Point}
use Rattle.points.specs.declared.Direction.{Direction}
use Rattle.points.specs.declared.Refusal.TheVariants.{Depth, Same}
use Rattle.masks.specs.Masks.{has_bit, pruned_in}
use Rattle.goals.specs.declared.Plan.{Plan}
use Rattle.goals.specs.Goals.{most_side}
use Rattle.nodes.specs.Bound.{edge_of}
use Rattle.offers.specs.declared.Work.{Work}
use Rattle.offers.specs.Search.{State, Out, ok, no, each, area_of, place_point, Lent, Expansion}
use Rattle.stops.specs.declared.Cell.{Cell}
use Rattle.stops.specs.declared.Jump.{Jump}
use Rattle.stops.specs.Stops.{Sized, Marked, Inside, spot_of, byte_at, price_of}
use Rattle.jumps.specs.Jumps.{jump_of}
use Rattle.successors.specs.Successors.{again_at, give_of}

-- the tables of a grid, and the list of goals
pub record Tables : Type 0 where
  pub blocked : List ℕ
  pub neighbours : List ℕ
  pub forced : List ℕ
  pub goals : List ℤ

abbrev pub tables : List ℕ → List ℕ → List ℕ → List ℤ → Tables
tables b n f g = record { blocked = b; neighbours = n; forced = f; goals = g }

-- the tables have a byte for each cell, and the plan the number of its goal's
pub record Floors (t : Tables) (p : Plan) : Type 0 where
  pub marked : Marked p
  pub sized : Sized t.blocked p.w p.h
  pub sized_neighbours : Sized t.neighbours p.w p.h
  pub sized_forced : Sized t.forced p.w p.h

-- what expanding a cell asks
pub record Ready (t : Tables) (p : Plan) (from : ℕ) (above : Point) (node : Cell) (base depth : ℕ) (r : Work) : Type 0 where
  pub floors : Floors t p
  pub lent : Lent t.goals p r
  pub seen : T (legal above)
  pub inside : Inside p node
  pub known : from < length r.number.now
  pub cheap : base + edge_of most_side depth < 2 ^ 40

-- what a jump found is expanded again or offered, its cost added; nothing ends the following of that direction
abbrev pub reached : Tables → Plan → ℕ → (Cell → ℕ → State → Out) → ℕ → ℕ → State → Option Jump → Out
reached t p from deeper base e s (Some j) = cond (again_at t.forced t.goals p e j.cell) (deeper j.cell (base + j.cost) s) (give_of t.goals p from j.cell (base + j.cost) s)
reached t p from deeper base e s None = ok s

-- one direction from a cell that is reached from the point above: `deeper` says what expanding again does, with the same parent
unfoldable pub follow_with : Tables → Plan → ℕ → (Point → Cell → ℕ → State → Out) → Point → Cell → ℕ → ℕ → ℕ → ℕ → State → Out
follow_with t p from deeper above node mask price base e s =
    cond (has_bit mask (e % 8)) (reached t p from (deeper above) base e s (jump_of t.blocked t.forced t.goals p e node price)) (ok s)

-- the pruned directions in number order, first steps priced by the travel direction, straight or bent; SAME if the cell is its own parent
abbrev pub travelled : Tables → Plan → (Point → Cell → ℕ → ℕ → ℕ → ℕ → State → Out) → Point → Cell → ℕ → State → Option Direction → Out
travelled t p along above node base s (Some d) =
    each
    (along above node (pruned_in p.settings.diagonal (d.number % 8) (byte_at t.neighbours p.w node.x node.y)) (price_of d.number) base)
    8 0 s
travelled t p along above node base s None = no (Same above)

-- a cell: `along` says what following one direction does
unfoldable pub expand_with : Tables → Plan → (Point → Cell → ℕ → ℕ → ℕ → ℕ → State → Out) → Point → Cell → ℕ → State → Out
expand_with t p along above node base s = travelled t p along above node base s (way_of (heading_of above (spot_of node.x node.y)))

-- what expanding again does where m more levels are allowed
unfoldable pub deeper_at : Tables → Plan → ℕ → ℕ → Point → Cell → ℕ → State → Out
deeper_at t p from zero above c k s = no Depth
deeper_at t p from (suc m) above c k s = expand_with t p (follow_with t p from (deeper_at t p from m)) above c k s

abbrev pub follow_at : Tables → Plan → ℕ → ℕ → Point → Cell → ℕ → ℕ → ℕ → ℕ → State → Out
follow_at t p from depth = follow_with t p from (deeper_at t p from depth)

abbrev pub expand_at : Tables → Plan → ℕ → ℕ → Point → Cell → ℕ → State → Out
expand_at t p from depth = expand_with t p (follow_at t p from depth)

-- the cell of a number
abbrev pub cell_of : ℕ → ℕ → Cell
cell_of w c = record { x = c % w + 1; y = c / w + 1 }

-- the expansion of a node whose parent is the node `up`
abbrev pub leap_from : Tables → Plan → ℕ → Expansion
leap_from t p up i k s =
    expand_at t p i p.settings.depth (place_point p (get_or s.nodes.place up 0)) (cell_of p.w (get_or s.nodes.place i 0)) k s

-- the expansion of a node that has a parent, the recorded one
unfoldable pub leap_of : Tables → Plan → Expansion
leap_of t p i k s = leap_from t p (get_or s.nodes.parent i 0) i k s

-- a node with a parent, on the grid
pub record Backed (p : Plan) (r : Work) (from : ℕ) : Type 0 where
  pub back : get_or r.parent.now from 0 < r.count
  pub landed : get_or r.place.now from 0 < area_of p
