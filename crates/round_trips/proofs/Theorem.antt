-- The round trips as one theorem. Assumes nothing.
use Rattle.floors.specs.Floors.{header_of, shown_of, read_as, read_of}
use Rattle.floors.proofs.Puts.{fair, held}
use Rattle.grid.specs.Grids.{zeros}
use Rattle.round_trips.specs.RoundTrips.{GridAgain, RoundTrips}
use Rattle.round_trips.proofs.Lines.{sides, number_line_again, line_again}
use Rattle.round_trips.proofs.Maps.{map_again}

grid_again : GridAgain
unfolding read_of shown_of
grid_again g diagonal start goal l s t room =
    let r = map_again (header_of g diagonal start goal) g.blocked zeros (fair g diagonal start goal l s t) (held g l room) in
    λ i. read_as (r.1 i) (r.0 i)

-- THEOREM: what is written is read back
pub round_trips : RoundTrips
round_trips = record {
  numbers = number_line_again 1024 sides;
  points = line_again;
  maps = map_again;
  grids = grid_again;
}
