-- `joins::join` meets its contract. Assumes nothing.
use Rattle.components.proofs.Roots
use Rattle.joins.proofs.Joins
use Rattle.cells.proofs.Cell.{inside}
use native.Mathlib.Omega.{arith}
use Rattle.joins.proofs.join.Goals as goal

pub join_next-requires : goal.join_next-requires
join_next-requires c = (Roots.weaken 254 (omega (arith, c.requires.0.few)) c.loop-d.invariant.kept.legal, c.requires.1, c.requires.0.each c.loop-d.d-index c.loop-d-test.true)

pub loop-d-preserved : goal.loop-d-preserved
loop-d-preserved c = record {
  few = omega arith;
  kept = Joins.kept_turn c.loop-d.d-index _ _ _ _ _ _ c.loop-d.invariant.kept (omega (arith, c.requires.0.few)) (inside c.args.at.within) c.join_next.ensures;
  left = Joins.joined_turn _ _ _ _ _ _ c.loop-d.d-index _ _ _ c.loop-d-test.true c.join_next.ensures c.loop-d.invariant.left;
}

pub returns : goal.returns
returns c = Joins.joined_end _ _ _ _ _ _ c.loop-d.d-index _ _ c.loop-d-test.false c.loop-d.invariant.left
