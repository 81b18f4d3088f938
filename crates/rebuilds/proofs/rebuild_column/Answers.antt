-- `rebuilds::rebuild_column` meets its contract. Assumes nothing.
use Rattle.rebuilds.proofs.Rebuilds
use native.Mathlib.Omega.{arith}
use mathlib.Core.Path.{refl}
use Rattle.rebuilds.proofs.rebuild_column.Goals as goal

pub loop-y-init : goal.loop-y-init
loop-y-init c = record { held = record { light = c.requires.2; long_p = refl; long_k = refl }; made = Rebuilds.column_none _ _ _ _ _ _ }

pub loop-y-preserved : goal.loop-y-preserved
loop-y-preserved c = record {
  held = rw c.rebuild_cell.ensures (Rebuilds.held_cell (omega arith) _ _ _ _ _ _ _ c.requires.0 c.loop-y-test.true _ c.loop-y.invariant.held);
  made = Rebuilds.column_turn _ _ _ _ _ c.loop-y.y _ _ _ c.loop-y.invariant.made c.rebuild_cell.ensures;
}
