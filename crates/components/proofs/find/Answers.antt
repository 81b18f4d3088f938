-- `components::find` meets its contract. Assumes nothing.
use mathlib.Core.Path.{refl}
use native.Mathlib.Omega.{arith}
use Rattle.components.proofs.Roots
use Rattle.components.proofs.find.Goals as goal

pub loop-up-preserved : goal.loop-up-preserved
loop-up-preserved c = ((Roots.up_in ((c.requires.0)) c.loop-up.x c.loop-up.up c.loop-up.invariant.0 c.loop-up.invariant.1 c.loop-up-test.true), refl, cc (Roots.root_next ((c.requires.0)) (omega arith) c.loop-up.x c.loop-up.invariant.0))

pub returns : goal.returns
returns c = cc (Roots.root_here c.args.parent.now c.loop-up.x (cc))
