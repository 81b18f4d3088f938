-- `sifts::rise` meets its contract. The loop's invariant: sift_up from the hole as it is now gives what sift_up gives from where the loop began. The measure is the hole's place. Assumes nothing.
use native.Mathlib.Omega.{arith}
use Rattle.sifts.specs.Sifts.{parent}
use Rattle.sifts.proofs.Lists.{at_entries}
use Rattle.sifts.proofs.Turns.{up_root, up_stop}
use Rattle.sifts.proofs.rise.Invariants.{turned, done}
use Rattle.sifts.proofs.rise.Goals as goal

pub returns-then-key-keys : goal.returns-then-key-keys
returns-then-key-keys c =
    let a = c.args in
    let here = at_entries c.loop-pos.keys c.loop-pos.idx (parent c.loop-pos.pos) (omega arith) (omega arith) in
    done _ _ _ _ _ _ _ c.loop-pos.invariant _ _ (up_stop _ _ _ _ (rw here (omega arith))) c.put.ensures.0 c.put.ensures.1

pub loop-pos-preserved : goal.loop-pos-preserved
loop-pos-preserved c = turned _ _ _ _ _ _ _ c.loop-pos.invariant _ _ c.requires.0 c.requires.1 (omega arith) (omega arith) c.shift.ensures.0 c.shift.ensures.1

pub returns : goal.returns
returns c = done _ _ _ _ _ _ _ c.loop-pos.invariant _ _ (up_root _ _ _ _ (omega arith)) c.put-2.ensures.0 c.put-2.ensures.1
