-- `grid::made` meets its contract. Assumes nothing.
use mathlib.Core.Path.{ap}
use Rattle.tables.specs.Tables.{Tables}
use Rattle.grid.specs.Grids.{grid_of, new_grid}
use Rattle.grid.proofs.made.Goals as goal

pub returns : goal.returns
unfolding new_grid
returns c = ap (λ (t : Tables). grid_of c.args.width c.args.height t) c.new.ensures
