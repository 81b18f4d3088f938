-- `stops::Cell::byte` meets its contract. Assumes nothing.
use Rattle.stops.specs.Stops.{byte_at}
use Rattle.stops.proofs.Cell.byte.Goals as goal

pub returns : goal.returns
unfolding byte_at
returns c = rw c.number.ensures
