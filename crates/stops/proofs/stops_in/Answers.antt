-- `stops::stops_in` meets its contract. Assumes nothing.
use Rattle.stops.specs.Stops.{stops_in}
use Rattle.stops.proofs.stops_in.Goals as goal

pub returns-then-hits : goal.returns-then-hits
unfolding stops_in
returns-then-hits c = rw (← c.hits.ensures, c.if-hits.true)

pub returns-else-hits : goal.returns-else-hits
unfolding stops_in
returns-else-hits c = rw (← c.hits.ensures, c.if-hits.false) c.bit.ensures
