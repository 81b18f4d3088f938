-- `fringe::sink` meets its contract. The loop's invariant: sift_down_to_bottom from the hole as it is now gives what it gives from 0. The measure is what is left below the hole. Assumes nothing.
use mathlib.Core.Path.{refl}
use native.Mathlib.Omega.{arith}
use Rattle.fringe.proofs.sink.Invariants.{turned, done_one, done_leaf}
use Rattle.fringe.proofs.sink.Goals as goal

pub loop-child-init : goal.loop-child-init
loop-child-init c = record { within = omega arith; next = refl; ks_len = refl; is_len = refl; turns = c.args.n; enough = omega arith; same = refl; ks_rest = refl; is_rest = refl }

pub loop-child-preserved : goal.loop-child-preserved
loop-child-preserved c = turned _ _ _ _ _ _ _ _ c.loop-child.invariant c.requires.1 c.requires.2 _ _ _ (omega arith) c.larger-best.ensures.0 c.larger-best.ensures.1 c.larger-best.ensures.2 c.shift.ensures.0 c.shift.ensures.1

pub returns-then-child-n : goal.returns-then-child-n
returns-then-child-n c = done_one _ _ _ _ _ _ _ _ c.loop-child.invariant c.requires.1 c.requires.2 _ _ _ _ (omega (arith, c)) (omega (arith, c)) c.shift-then-child-n.ensures.0 c.shift-then-child-n.ensures.1 c.rise.ensures

pub returns : goal.returns
returns c = done_leaf _ _ _ _ _ _ _ _ c.loop-child.invariant c.requires.1 c.requires.2 _ _ (omega arith) c.rise-2.ensures
