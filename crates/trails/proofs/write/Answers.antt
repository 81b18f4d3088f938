-- `trails::write` meets its contract. The loop's invariant: the points of the nodes passed stand at the end. Assumes nothing.
use Rattle.trails.proofs.Climb.{write_start, write_next, write_end}
use Rattle.trails.proofs.write.Goals as goal

pub loop-j-init : goal.loop-j-init
loop-j-init c = write_start c.args.parent.now c.args.cost.now c.args.count c.args.at c.requires.1.1.0 c.args.p c.args.place.now c.args.n c.args.out.now c.requires.1.1.1.0 c.requires.1.1.1.1.1

pub loop-j-preserved : goal.loop-j-preserved
loop-j-preserved c = write_next c.args.p c.args.place.now c.args.parent.now c.args.cost.now _ _ c.requires.1.0 _ _ _ _ _ _ c.loop-j.invariant c.loop-j-test.true c.place_point-q.ensures c.put.ensures c.put.auto.out

pub returns : goal.returns
returns c = write_end c.args.p c.args.place.now c.args.parent.now c.args.cost.now _ _ c.requires.1.0 _ _ _ _ _ _ c.loop-j.invariant c.loop-j-test.false c.place_point.ensures c.put-2.ensures
