-- `floors::floor` meets its contract: each table is filled in turn. Assumes nothing.
use Rattle.floors.specs.Floors.{floor_grid}
use Rattle.grid.specs.Grids.{zeros}
use Rattle.masks.specs.Masks.{forced_of}
use Rattle.fills.specs.Fills.{fill_to}
use lib.ListN.{get_or}
use Prim.Native.Nat.{◌*◌}
use mathlib.Core.Bool.{true}
use mathlib.Core.Path.{◌∙◌}
use Rattle.floors.proofs.floor.Goals as goal

pub returns : goal.returns
unfolding floor_grid
returns c =
    let n = c.args.w * c.args.h in
    let forced = c.fill_forced.ensures ∙ (λ j. fill_to (λ i. forced_of (get_or (c.fill_masks.ensures j) i 0)) zeros n) in
    λ i. record { width = c.args.w; height = c.args.h; dirty = true; blocked = c.args.blocked; neighbours = c.fill_masks.ensures i; forced = forced i; parent = c.fill_ident.ensures i; rank = zeros }
