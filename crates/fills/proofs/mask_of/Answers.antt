-- `fills::mask_of` meets its contract. Assumes nothing.
use Rattle.fills.specs.Fills.{free_bit}
use Rattle.fills.proofs.Fills.{free_small, mask_turn}
use Rattle.fills.proofs.mask_of.Goals as goal

pub overflow_add-m : goal.overflow_add-m
overflow_add-m c =
    let t = mask_turn (free_bit c.args.at.w c.args.at.h c.args.blocked.now c.args.at.x c.args.at.y) (free_small _ _ _ _ _) c.loop-d.d c.loop-d.m c.free_bit.result c.loop-d-test.true c.loop-d.invariant c.free_bit.ensures in
    record { fits = t.0 }

pub loop-d-preserved : goal.loop-d-preserved
loop-d-preserved c =
    let t = mask_turn (free_bit c.args.at.w c.args.at.h c.args.blocked.now c.args.at.x c.args.at.y) (free_small _ _ _ _ _) c.loop-d.d c.loop-d.m c.free_bit.result c.loop-d-test.true c.loop-d.invariant c.free_bit.ensures in
    t.1
