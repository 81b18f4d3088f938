-- `grid::rebuild` meets its contract. Assumes nothing.
use mathlib.Core.Path.{ap}
use Rattle.tables.specs.Tables.{Tables}
use Rattle.tables.proofs.Changes.{rebuild_leaves}
use Rattle.grid.specs.Grids.{tables_of, grid_of, rebuild_grid}
use Rattle.grid.proofs.rebuild.Goals as goal

pub returns : goal.returns
unfolding rebuild_grid
returns c =
    let g = c.args.g.now in
    ap (λ (t : Tables). grid_of g.width g.height t) (rebuild_leaves g.width g.height _ (tables_of g) _ _ c.rebuild.ensures)
