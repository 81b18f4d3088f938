-- `components::find_mut` meets its contract. Assumes nothing.
use lib.Seq.{get_or-set_other}
use mathlib.Core.Path.{◌≡◌, sym, ◌∙◌}
use native.Mathlib.Omega.{arith}
use lib.ListN.{get_or, length-set}
use Rattle.components.proofs.Roots
use Rattle.components.proofs.find_mut.Goals as goal

pub loop-up-preserved : goal.loop-up-preserved
loop-up-preserved c =
    rw c.store_parent.ensures (
      (Roots.up_in c.loop-up.invariant.2 c.loop-up.x c.loop-up.up c.loop-up.invariant.0 c.loop-up.invariant.1 c.loop-up-test.true),
      sym (get_or-set_other c.loop-up.parent c.loop-up.x c.loop-up.up (get_or c.loop-up.parent c.loop-up.up 0) 0 c.loop-up-test.true),
      Roots.up_legal c.loop-up.invariant.2 (omega arith) c.loop-up.x c.loop-up.up c.loop-up.invariant.0 c.loop-up.invariant.1,
      Roots.up_root c.loop-up.invariant.2 (omega arith) c.loop-up.x c.loop-up.up c.loop-up.invariant.0 c.loop-up.invariant.1 ((Roots.up_in c.loop-up.invariant.2 c.loop-up.x c.loop-up.up c.loop-up.invariant.0 c.loop-up.invariant.1 c.loop-up-test.true)) ∙ c.loop-up.invariant.3,
      Roots.up_halve c.loop-up.invariant.2 (omega arith) c.loop-up.x c.loop-up.up c.loop-up.invariant.0 c.loop-up.invariant.1 ∙ c.loop-up.invariant.4,
      length-set c.loop-up.parent c.loop-up.x (get_or c.loop-up.parent c.loop-up.up 0) ∙ c.loop-up.invariant.5,
    )

pub returns : goal.returns
returns c =
    let e : get_or c.loop-up.parent c.loop-up.x 0 ≡ c.loop-up.x = cc in
    (cc (Roots.root_here c.loop-up.parent c.loop-up.x e), cc (Roots.halve_here c.loop-up.parent c.loop-up.x e))
