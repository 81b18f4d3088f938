-- `rebuilds::rebuild` meets its contract. Assumes nothing.
use Rattle.rebuilds.proofs.Rebuilds
use Rattle.rebuilds.specs.Rebuilds.{most_rank}
use native.Mathlib.Omega.{arith}
use mathlib.Core.Path.{refl}
use Rattle.rebuilds.proofs.rebuild.Goals as goal

pub loop-x-init : goal.loop-x-init
loop-x-init c =
    let K = Rebuilds.held_singles most_rank c.args.size.w c.args.size.h c.args.parent.now c.args.rank.now c.requires.1 c.requires.2 (Rebuilds.fits c.args.size.sides) in
    record { held = record { light = Rebuilds.light_as _ _ _ _ (rw c.area-n.ensures at c.fill_ident.ensures) (rw c.area-n.ensures at c.fill_zero.ensures) K.light; long_p = refl; long_k = refl }; made = Rebuilds.columns_none _ _ _ _ _ }

pub loop-x-preserved : goal.loop-x-preserved
loop-x-preserved c = record {
  held = rw c.rebuild_column.ensures (Rebuilds.held_column (omega arith) _ _ _ _ _ _ c.loop-x-test.true _ (omega arith) _ c.loop-x.invariant.held);
  made = Rebuilds.columns_turn _ _ _ _ c.loop-x.x _ _ _ c.loop-x.invariant.made c.rebuild_column.ensures;
}
